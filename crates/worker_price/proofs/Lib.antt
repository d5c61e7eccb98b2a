pub mod Limits
pub mod Working
pub mod Gathering
pub mod InOrder
pub mod Choosing
pub mod Runs
pub mod Bounds
