-- What the contracts of names cite.
pub mod Composed
pub mod Hashing
pub mod Json
pub mod UnparsedLemmas
pub mod Order
pub mod OwnLabels
pub mod Text
pub mod Unparsed
