pub mod Marks
pub mod Parts
pub mod Layout
pub mod Frame
pub mod Blocks
pub mod Duties
pub mod Page
pub mod Bars
