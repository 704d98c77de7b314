pub mod AnsweredPortions
pub mod Bodies
pub mod HandlersOfPortions
pub mod Headers
pub mod Letters
pub mod Portions
pub mod Unique
pub mod WithoutRepeats
