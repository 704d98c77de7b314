pub mod ConstantCases
pub mod EachRow
pub mod FileCases
pub mod FirstRecords
mod LaterRecords
pub mod SaidByFile
