pub mod Duty
pub mod Summary
pub mod Lawful
