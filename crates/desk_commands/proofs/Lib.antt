pub mod ClientsSeen
pub mod ClosedFiles
pub mod ConnectionLines
pub mod EndsOfRuns
pub mod ImportsOfFiles
pub mod ListsAfter
pub mod Questions
pub mod RunsOnFiles
