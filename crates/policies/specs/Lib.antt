pub mod Lasts
pub mod Pairs
pub mod Recent
pub mod Rooms
pub mod Pairing
