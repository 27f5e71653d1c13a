-- The crate's own lemmas.
pub mod FieldLemmas
pub mod ReaderLemmas
pub mod RecordOrder
pub mod RecordsOfLines
