pub mod Late
pub mod Marks
pub mod Order
pub mod Reasons
pub mod Runs
pub mod Sources
