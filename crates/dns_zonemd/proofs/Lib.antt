-- The crate's own lemmas.
pub mod SortedRecords
pub mod StateLemmas
pub mod VerdictLemmas
