-- What the contracts of record data of any type cite.
pub mod Alike
pub mod Data
pub mod Edns
pub mod EdnsForms
pub mod EdnsRecordLemmas
pub mod Mapping
pub mod Plain
pub mod Compressible
pub mod CanonicalSizes
