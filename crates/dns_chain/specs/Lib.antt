-- What the contracts on chains of pointers cite.
pub mod CanonicalNames
pub mod Chains
