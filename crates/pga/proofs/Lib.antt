pub mod Arcs
pub mod Written
pub mod Parts
pub mod Decoding
pub mod Decided
pub mod Unique
pub mod Text
pub mod Listed
