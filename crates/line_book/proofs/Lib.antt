mod BookCases
pub mod Cases
mod DoubtCases
pub mod Doubting
pub mod Going
pub mod Growing
pub mod Restoring
pub mod RowsRead
pub mod Setups
pub mod WaysOut
