pub mod Courses
pub mod Timing
pub mod Runs
pub mod Names
