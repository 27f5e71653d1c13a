-- The crate's own lemmas.
pub mod DecimalLemmas
pub mod GeneratedRecords
pub mod HeldLines
pub mod MadeLemmas
pub mod Pairs
pub mod Parting
pub mod PlainNames
pub mod PushedAnswers
pub mod ReportedSameness
pub mod ExpectedStatuses
pub mod WordLemmas
pub mod Written
mod CanonRefusals
mod RunStatuses
