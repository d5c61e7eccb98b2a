pub mod Leasts
pub mod Goods
pub mod Steps
pub mod Lists
pub mod Folds
pub mod Places
pub mod Renewals
pub mod Moderate
