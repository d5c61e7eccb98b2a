pub mod Fitting
pub mod Modest
