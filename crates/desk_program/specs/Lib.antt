pub mod Program
pub mod System
pub mod Ways
