pub mod CauseValues
pub mod RowsWanted
pub mod TextCases
