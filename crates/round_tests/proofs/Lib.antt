pub mod Pairs
pub mod SinglesAre
pub mod Modest
