-- What the contracts of wire numbers and of prefixed data cite.
pub mod InMessage
pub mod PrefixedLemmas
pub mod Prefixed
