pub mod Efforts
pub mod Rounds
pub mod Steps
