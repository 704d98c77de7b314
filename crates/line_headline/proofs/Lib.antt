pub mod CallsInTurn
pub mod Growing
pub mod NextRun
