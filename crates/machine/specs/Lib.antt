pub mod Index
pub mod Names
pub mod Closing
pub mod Reading
pub mod Machines
