pub mod Fault
pub mod Files
pub mod Lines
pub mod Lists
