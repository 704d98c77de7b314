pub mod Bodies
pub mod Book
pub mod Counts
pub mod Csv
pub mod Fault
pub mod NotFound
pub mod Noted
pub mod State
