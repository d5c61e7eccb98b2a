pub mod Timed
pub mod Outcomes
pub mod Same
pub mod Laid
pub mod Following
