pub mod Blocks
pub mod FirstTime
pub mod Refusing
pub mod Sameness
pub mod SentFronts
pub mod Strings
