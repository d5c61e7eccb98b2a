pub mod Marking
pub mod Covers
pub mod Orders
pub mod Searches
pub mod Minimal
pub mod Levels
