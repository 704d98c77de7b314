pub mod Answer
pub mod Fault
pub mod File
pub mod FirstRecords
pub mod Import
pub mod Written
