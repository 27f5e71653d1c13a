-- The crate's own lemmas.
pub mod Canonical
pub mod FormatLemmas
pub mod Forms
pub mod UncompressedData
pub mod CompressedData
pub mod PlainOctets
pub mod MappedNames
