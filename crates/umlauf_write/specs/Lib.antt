pub mod Printed
pub mod Tables
pub mod Reading
pub mod Examples
pub mod Trips
pub mod Answers
