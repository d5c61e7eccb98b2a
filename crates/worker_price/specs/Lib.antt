pub mod Priced
pub mod Work
pub mod Gathered
pub mod Runs
pub mod Order
