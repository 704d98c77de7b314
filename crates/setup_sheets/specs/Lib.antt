pub mod Alternates
pub mod LookUps
pub mod Names
pub mod Sheet
pub mod Verification
