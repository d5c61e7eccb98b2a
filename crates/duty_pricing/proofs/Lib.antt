pub mod Lowering
pub mod Bounding
pub mod Checks
pub mod Ties
pub mod Looking
pub mod Early
pub mod Overs
