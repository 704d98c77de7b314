pub mod CommandLineCases
pub mod OneCommand
