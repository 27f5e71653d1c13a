-- What the contracts of data with names that may be compressed cite.
pub mod Calls
pub mod NamePairLemmas
pub mod Types
