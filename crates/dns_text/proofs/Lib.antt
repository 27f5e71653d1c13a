-- The crate's own lemmas.
pub mod Decoding
mod DigitBlocks
pub mod Encoding
mod Lanes
mod ShownBlocks
pub mod Transfers
mod Trimming
pub mod WordLemmas
pub mod HexadecimalLemmas
pub mod TrimLemmas
