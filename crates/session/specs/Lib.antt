pub mod View
pub mod Turns
pub mod Answering
pub mod Opening
pub mod Hearing
