pub mod Sums
pub mod Webs
pub mod Nearest
pub mod Woven
