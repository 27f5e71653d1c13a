-- The crate's own lemmas.
pub mod CountedData
pub mod FilledPrefixes
pub mod OneBit
pub mod SizePrefixes
pub mod PrefixedAt
pub mod OverwrittenOctets
