pub mod Grid
pub mod Numbering
