pub mod Offers
pub mod Modest
