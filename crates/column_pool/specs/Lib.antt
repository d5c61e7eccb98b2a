pub mod Pools
pub mod Buckets
pub mod Keys
