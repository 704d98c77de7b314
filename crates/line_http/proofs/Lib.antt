pub mod DeskAlike
pub mod Lines
