pub mod Doubts
pub mod Ends
pub mod Reading
