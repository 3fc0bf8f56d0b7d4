pub mod Lists
pub mod Answering
pub mod Views
pub mod Writing
pub mod Opening
pub mod Hearing
pub mod Turning
