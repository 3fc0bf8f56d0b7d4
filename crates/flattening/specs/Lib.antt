pub mod Places
pub mod Orders
pub mod Keeping
pub mod Walks
pub mod Flat
