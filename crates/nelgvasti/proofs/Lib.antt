-- The crate's own lemmas.
pub mod Cutting
pub mod Filled
pub mod NameLemmas
pub mod Readings
pub mod RecordLemmas
pub mod Sameness
pub mod ZoneRefusals
