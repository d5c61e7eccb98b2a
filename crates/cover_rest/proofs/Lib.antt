pub mod Counts
pub mod Lists
pub mod Kept
pub mod Places
pub mod Rests
pub mod Marked
pub mod Steps
pub mod Whole
