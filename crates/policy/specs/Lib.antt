pub mod Classes
pub mod Places
pub mod Entries
pub mod Paths
pub mod LinkTaking
pub mod Linked
pub mod Taking
