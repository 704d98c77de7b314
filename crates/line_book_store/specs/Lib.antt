pub mod Book
pub mod Checking
pub mod Names
pub mod Reading
pub mod Together
