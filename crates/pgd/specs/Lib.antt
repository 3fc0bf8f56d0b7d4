pub mod Files
pub mod Reading
pub mod Flaws
pub mod Checks
pub mod Writing
