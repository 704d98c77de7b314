pub mod Files
pub mod Found
pub mod Memory
pub mod Opened
pub mod Refused
pub mod Unread
