-- What the wire layer's contracts cite.
pub mod Agreement
pub mod Building
pub mod Compression
pub mod InMessage
pub mod ReadingLemmas
pub mod Lists
pub mod Names
pub mod Octets
pub mod Layout
pub mod Pointers
pub mod Reading
pub mod Reversed
pub mod Searching
pub mod Steps
pub mod Storage
pub mod Texts
pub mod LayoutLemmas
