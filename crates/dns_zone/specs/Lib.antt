-- What the contracts of zone digests cite.
pub mod Digests
pub mod Texts
pub mod Zone
