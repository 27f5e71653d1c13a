-- What the contracts of the calls for C cite.
pub mod Buffers
pub mod Calls
pub mod Formats
pub mod Refused
pub mod Zones
