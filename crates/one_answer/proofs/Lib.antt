pub mod Firsts
pub mod Verdicts
pub mod Parts
pub mod Steps
pub mod Once
pub mod OldOnce
