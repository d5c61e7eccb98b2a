pub mod Ranges
pub mod Offers
