-- The crate's own lemmas.
pub mod UncompressedNames
pub mod Bitmaps
pub mod ComparedOctets
pub mod EachFormat
pub mod CompressibleNames
pub mod Opted
pub mod PartsLemmas
pub mod PartsOfOctets
pub mod Places
pub mod Sizes
pub mod Stepped
pub mod CharacterStringLemmas
pub mod Worded
pub mod FieldLayoutLemmas
pub mod TestedOctets
pub mod ListedFormatLemmas
