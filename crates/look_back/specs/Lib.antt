pub mod Kept
pub mod Laws
pub mod Life
pub mod Searching
pub mod Totals
