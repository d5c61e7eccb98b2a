pub mod Causes
pub mod Methods
pub mod Once
pub mod Orders
