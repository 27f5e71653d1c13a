-- What the contracts of data that deny names cite.
pub mod Bitmaps
pub mod Flags
pub mod Hashed
pub mod Seen
pub mod Types
