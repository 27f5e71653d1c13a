-- What the contracts of messages by the line cite.
pub mod Answers
pub mod Lines
pub mod Pieces
pub mod Records
pub mod Runs
pub mod Signatures
pub mod Words
