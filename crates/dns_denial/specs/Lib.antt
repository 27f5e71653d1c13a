-- What the contracts of denial and signed octets cite.
pub mod Base32
pub mod Coverage
pub mod Hashes
pub mod KeyTags
pub mod Signed
pub mod Texts
pub mod Unbase32
pub mod Words
pub use Rattle.sha1.specs.Sha1
