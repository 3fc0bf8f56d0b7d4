pub mod Files
pub mod Writing
pub mod Reading
pub mod Refusals
pub mod Flaws
pub mod Checks
pub mod Listing
