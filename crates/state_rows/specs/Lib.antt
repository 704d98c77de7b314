pub mod After
pub mod EditsOf
pub mod Kept
pub mod Lists
pub mod Noting
