pub mod Seeking
pub mod Noding
pub mod Answering
pub mod Ordering
