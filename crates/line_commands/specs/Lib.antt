pub mod Noting
pub mod Serving
