pub mod Legs
pub mod Cuts
