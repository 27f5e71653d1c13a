-- What the contracts of digests over sorted records cite.
pub mod SortedZone
pub mod States
pub mod Sums
pub mod Verdicts
