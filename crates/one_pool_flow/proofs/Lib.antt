pub mod Bridge
pub mod FlowPlans
pub mod Laid
pub mod Listed
pub mod Unique
