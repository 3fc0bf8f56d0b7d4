pub mod Reading
pub mod Equality
pub mod Numbering
pub mod Unique
