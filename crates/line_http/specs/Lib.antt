pub mod Asked
pub mod Desk
pub mod Gives
pub mod Line
pub mod Messages
pub mod OnlyDesk
pub mod Routes
pub mod Rule
