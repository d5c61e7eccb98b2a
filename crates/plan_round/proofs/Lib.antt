pub mod Puts
pub mod Rounds
pub mod Inserts
pub mod Counts
pub mod Fills
pub mod Takes
pub mod Room
pub mod Places
