pub mod Breaks
pub mod Tallies
pub mod Runs
pub mod Words
pub mod Verdicts
