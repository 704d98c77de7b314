pub mod Counting
pub mod Facts
pub mod Feeding
pub mod Placing
pub mod Scrapping
pub mod Turns
pub mod Words
