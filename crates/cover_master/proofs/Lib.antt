mod Ranks
mod Walks
mod Prices
pub mod Rules
mod Losses
mod Limits
