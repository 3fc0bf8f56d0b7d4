pub mod Numbered
pub mod Laws
pub mod Lookup
pub mod Rising
pub mod Finding
pub mod Spaces
