pub mod Spellings
pub mod Padding
pub mod Refusals
pub mod Lexicons
