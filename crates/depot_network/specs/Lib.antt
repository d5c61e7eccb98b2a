pub mod Network
pub mod Driving
pub mod Walk
pub mod Open
pub mod Listed
pub mod Counted
pub mod BlockMarks
pub mod MarkExamples
