pub mod Leasts
pub mod Offers
pub mod Passes
pub mod Pools
pub mod Prices
