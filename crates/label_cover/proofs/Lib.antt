pub mod Shapes
pub mod Fields
