-- What the contracts of boxed data cite.
pub mod Boxed
pub mod BoxedValue
pub mod ContentSameness
pub mod FieldShapes
pub mod ReadableOctets
