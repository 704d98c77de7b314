pub mod Doubts
pub mod Files
