pub mod Paths
pub mod DayNets
pub mod DayLaws
pub mod Flows
pub mod Examples
