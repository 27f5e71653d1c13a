-- The crate's own lemmas.
mod CountedOptions
pub mod Fronts
pub mod Given
mod Items
mod MatchingOptions
pub mod TrimmedTexts
