pub mod Bounds
pub mod Drives
pub mod Opens
pub mod Walks
pub mod Marked
pub mod Modest
