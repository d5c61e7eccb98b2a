pub mod Labels
pub mod Facts
pub mod Kept
pub mod Groups
pub mod Laws
pub mod Prices
pub mod Marks
