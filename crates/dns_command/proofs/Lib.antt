-- The crate's own lemmas.
pub mod ListTexts
mod NoteLines
pub mod Printed
pub mod RefusalLemmas
pub mod TextLemmas
pub mod Translations
