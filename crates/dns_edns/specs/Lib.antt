-- What the contracts of EDNS cite.
pub mod Addresses
pub mod Cookies
pub mod CookiesLemmas
pub mod Digits
pub mod ExtErrors
pub mod ExtErrorsLemmas
pub mod Flags
pub mod OptionsLemmas
pub mod Options
pub mod Seen
pub mod Suiting
pub mod SuitingLemmas
pub mod Types
