-- The crate's own lemmas.
pub mod AlikeContent
