pub mod Firsts
pub mod Risen
