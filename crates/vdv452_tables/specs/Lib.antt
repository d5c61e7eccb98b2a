pub mod Calendar
pub mod Keys
pub mod Order
pub mod LookUps
pub mod Ranges
pub mod Indexes
