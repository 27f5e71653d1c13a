-- The crate's own lemmas.
pub mod Chaining
pub mod OwnLabelLemmas
