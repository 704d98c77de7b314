pub mod CallsInTurn
pub mod CrashedFiles
pub mod FailingDisks
pub mod ProgramRuns
pub mod RunsInTurn
pub mod WholeRuns
