pub mod Faults
pub mod Indexes
pub mod Limits
pub mod LookUps
pub mod Names
pub mod Rules
pub mod Settings
