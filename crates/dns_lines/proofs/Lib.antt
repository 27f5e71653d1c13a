-- The crate's own lemmas.
pub mod AnswerLemmas
pub mod CommandWords
pub mod LineLemmas
pub mod PieceLemmas
pub mod RunLemmas
pub mod ShownLemmas
