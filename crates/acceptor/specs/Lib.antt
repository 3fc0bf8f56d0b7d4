pub mod Refusals
pub mod Turns
pub mod Rising
pub mod Rows
pub mod Flats
pub mod Steps
pub mod Subsets
