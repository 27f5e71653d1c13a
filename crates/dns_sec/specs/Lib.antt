-- What the contracts of the types of DNSSEC cite.
pub mod Flags
pub mod Moments
pub mod Formats
pub mod Types
