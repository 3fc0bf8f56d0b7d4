pub mod Promises
pub mod Compiling
