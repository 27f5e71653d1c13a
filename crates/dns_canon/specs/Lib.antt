-- What the contracts of the canonical list and of the top call cite.
pub mod Generated
pub mod Making
pub mod Parts
pub mod Run
pub mod Statuses
pub mod ExpectedStatus
pub mod Words
