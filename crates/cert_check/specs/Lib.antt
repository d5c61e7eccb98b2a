pub mod Certified
pub mod Examples
pub mod Judging
pub mod Names
pub mod Old
pub mod Parts
pub mod Reasons
pub mod Steps
