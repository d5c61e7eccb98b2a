pub mod Counts
pub mod Crossing
pub mod Fills
pub mod Holding
pub mod Labels
pub mod Lending
pub mod Steps
