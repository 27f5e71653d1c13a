-- The crate's own lemmas.
pub mod Circle
pub mod Groups
pub mod Lines
pub mod Outcomes
pub mod SaltLemmas
pub mod Signatures
pub mod Ungroups
pub mod WordLemmas
