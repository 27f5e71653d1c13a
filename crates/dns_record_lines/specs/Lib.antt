-- What the contracts of lines of records cite.
pub mod LineFields
pub mod RecordLines
