pub mod Rest
pub mod Keeping
pub mod Laws
pub mod Marks
pub mod Examples
