mod RefusedFiles
mod RunEnds
pub mod Answered
pub mod KeptFiles
pub mod OneFileMore
pub mod ReadWords
pub mod Told
