pub mod Closing
pub mod Found
mod Kept
pub mod Lines
mod Results
mod Windows
