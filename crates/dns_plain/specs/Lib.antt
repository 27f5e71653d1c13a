-- What the contracts of data without compressed names cite.
pub mod AddressTexts
pub mod Types
