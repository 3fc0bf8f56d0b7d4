pub mod Lists
pub mod Orders
pub mod Found
pub mod Bits
pub mod Rows
pub mod Members
pub mod Same
pub mod Least
