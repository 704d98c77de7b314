pub mod Agreeing
pub mod Entries
pub mod Items
pub mod MemberCases
pub mod Pieces
