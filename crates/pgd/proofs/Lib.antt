pub mod Written
pub mod Finals
pub mod Parts
pub mod Decoding
pub mod Decided
pub mod Unique
