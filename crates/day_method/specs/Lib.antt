pub mod Method
pub mod Names
