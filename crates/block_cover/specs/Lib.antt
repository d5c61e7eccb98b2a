pub mod Seen
pub mod Simulation
pub mod Laws
