pub mod Heads
pub mod Rest
pub mod Low
pub mod Listed
pub mod Laws
pub mod Examples
