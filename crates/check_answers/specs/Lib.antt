pub mod Checkable
pub mod Accepted
pub mod DayRead
pub mod Texts
