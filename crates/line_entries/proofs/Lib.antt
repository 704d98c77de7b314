pub mod EachByte
pub mod Live
pub mod Reading
pub mod ToldEntries
pub mod ToldMessages
pub mod Words
