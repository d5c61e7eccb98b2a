pub mod Order
pub mod Exchange
pub mod Leasts
pub mod Searches
pub mod Kept
