pub mod Crews
pub mod Grounds
pub mod Descents
pub mod Orders
