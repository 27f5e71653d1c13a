-- The crate's own lemmas.
mod AlikeBitmaps
mod WindowBits
mod Made
mod Marked
mod NamedTypes
mod Parted
mod RisingTypes
