pub mod Times
pub mod LegLists
pub mod Pieces
pub mod Few
pub mod Ordered
