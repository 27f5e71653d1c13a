-- The crate's own lemmas.
mod AddressTexts
pub mod TxtLemmas
