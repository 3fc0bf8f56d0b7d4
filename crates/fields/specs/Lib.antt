pub mod Reading
pub mod Arcs
pub mod Refusals
pub mod Flaws
pub mod Judged
pub mod Putting
pub mod Files
