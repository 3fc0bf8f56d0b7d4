pub mod Placing
pub mod Mapped
pub mod Tracking
