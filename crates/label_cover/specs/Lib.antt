pub mod Marked
pub mod Opened
pub mod Ranges
pub mod Laws
