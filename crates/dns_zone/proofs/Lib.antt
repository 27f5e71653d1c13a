-- The crate's own lemmas.
pub mod Lines
pub mod MemberForms
pub mod Members
pub mod ReadSoFar
pub mod SameZones
pub mod Streams
pub mod Suffixes
pub mod TextRecords
pub mod ZoneOutcomes
