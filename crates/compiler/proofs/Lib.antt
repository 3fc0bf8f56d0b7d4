pub mod Composing
pub mod Fitting
pub mod Assembling
pub mod Accepting
pub mod Handing
