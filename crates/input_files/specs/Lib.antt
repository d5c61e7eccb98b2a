pub mod Stages
pub mod Inputs
pub mod Parts
pub mod Taken
pub mod Lines
