pub mod Refusals
pub mod Determinising
