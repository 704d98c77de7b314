pub mod CommandLineCases
