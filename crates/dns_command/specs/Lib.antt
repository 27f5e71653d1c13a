-- What the contracts of commands cite.
pub mod Endings
pub mod Notes
pub mod Outcomes
pub mod Refusals
pub mod Texts
