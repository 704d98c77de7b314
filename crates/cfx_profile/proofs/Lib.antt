pub mod ConstantCases
pub mod Faults
pub mod Items
pub mod Names
pub mod Readings
pub mod Skips
