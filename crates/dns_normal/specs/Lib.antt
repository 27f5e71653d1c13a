-- What the contracts of normal forms cite.
pub mod Answers
pub mod Normal
pub mod Texts
