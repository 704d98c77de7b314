pub mod Accepted
pub mod Agreement
pub mod Body
pub mod Comparison
pub mod NamedReels
pub mod Receipt
