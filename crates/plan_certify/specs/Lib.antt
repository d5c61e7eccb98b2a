pub mod Certificate
pub mod Once
pub mod Alike
