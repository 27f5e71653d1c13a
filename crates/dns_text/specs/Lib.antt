-- What the contracts of sources, sinks and whole texts cite.
pub mod Devices
pub mod Digits
pub mod Hexadecimal
pub mod Outside
pub mod Spelled
pub mod Taken
pub mod Words
