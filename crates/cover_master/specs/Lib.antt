pub mod Method
pub mod Fitting
pub mod Candidates
