pub mod Pieces
pub mod Committed
pub mod Working
