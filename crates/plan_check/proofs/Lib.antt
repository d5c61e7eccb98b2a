pub mod Lists
pub mod Decided
pub mod Counted
pub mod Worthy
pub mod Small
