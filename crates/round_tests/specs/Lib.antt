pub mod Pair
pub mod Singles
