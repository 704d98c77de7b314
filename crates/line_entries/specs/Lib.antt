pub mod Columns
pub mod Refusal
pub mod Rows
pub mod Told
pub mod Unread
