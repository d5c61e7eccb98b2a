mod Ranks
pub mod Readies
