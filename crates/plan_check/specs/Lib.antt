pub mod Verdicts
pub mod Shown
pub mod Judged
pub mod Counts
pub mod Found
pub mod Firsts
