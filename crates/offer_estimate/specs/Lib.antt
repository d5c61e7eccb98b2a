pub mod Scales
pub mod Estimates
