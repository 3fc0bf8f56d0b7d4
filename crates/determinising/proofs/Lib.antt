pub mod Ranges
pub mod Stepping
pub mod Building
