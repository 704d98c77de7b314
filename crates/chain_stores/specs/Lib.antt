pub mod Begin
pub mod First
pub mod Look
