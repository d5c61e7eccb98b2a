pub mod Climbs
pub mod Mends
pub mod Passes
pub mod Searches
pub mod Settings
pub mod Walks
