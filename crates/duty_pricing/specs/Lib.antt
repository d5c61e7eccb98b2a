pub mod Bounds
pub mod Units
pub mod Laws
pub mod Behind
pub mod Early
