pub mod Entries
pub mod DeadTimes
