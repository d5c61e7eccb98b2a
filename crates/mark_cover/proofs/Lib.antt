pub mod Paid
pub mod Keys
pub mod Firsts
pub mod Minima
pub mod Inserted
pub mod Kept
pub mod Permuted
