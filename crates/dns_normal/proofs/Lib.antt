-- The crate's own lemmas.
pub mod AnswersLemmas
pub mod NormalForms
pub mod NormalOctets
pub mod NormalTexts
pub mod NormalOutcomes
pub mod PushedRecords
pub mod RecordsOf
pub mod SameRecords
