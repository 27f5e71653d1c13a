-- The crate's own lemmas.
pub mod Digests
mod Ordered
