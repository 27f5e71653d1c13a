-- What the contracts of labels cite.
pub mod Hashing
pub mod Labels
pub mod LabelsLemmas
pub mod Lends
pub mod Order
pub mod Text
