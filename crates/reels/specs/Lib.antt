pub mod Fitting
pub mod Reel
