pub mod Begun
pub mod Replanning
pub mod ReplanText
pub mod Steps
pub mod Once
pub mod Alike
