pub mod Chained
pub mod Counted
pub mod Difference
pub mod Rows
pub mod Tables
pub mod Texts
pub mod Views
