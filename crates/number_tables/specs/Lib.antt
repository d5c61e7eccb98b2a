pub mod Numbers
pub mod Outlines
pub mod Signed
pub mod Single
