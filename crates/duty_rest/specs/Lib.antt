pub mod Heads
pub mod Rest
pub mod Laws
pub mod Listed
pub mod Examples
