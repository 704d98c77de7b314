mod ListsOpened
mod Sayings
