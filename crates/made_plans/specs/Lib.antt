pub mod Wide
pub mod Roomy
pub mod Rooms
pub mod MadeRows
pub mod MadeTrips
pub mod MadeDays
pub mod Planned
pub mod MadeTables
