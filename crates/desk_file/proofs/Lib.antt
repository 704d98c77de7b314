pub mod ClosedFiles
pub mod FirstLists
pub mod Making
pub mod RefusedFiles
pub mod Truth
pub mod UnreadFiles
