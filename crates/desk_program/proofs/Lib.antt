pub mod AskedRuns
pub mod WaysOfRuns
