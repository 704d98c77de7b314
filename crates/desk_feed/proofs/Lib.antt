pub mod AnsweredLines
pub mod ConstantCases
pub mod FileFronts
pub mod LinesOfInputs
pub mod OwnersOfLines
pub mod TakenLines
pub mod WithoutRepeats
