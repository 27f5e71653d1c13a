-- The crate's own lemmas.
pub mod ComparedLabels
pub mod FilledLabels
pub mod UnescapedOctets
pub mod Preceding
pub mod Scanned
pub mod StoredLabels
pub mod TextFaults
