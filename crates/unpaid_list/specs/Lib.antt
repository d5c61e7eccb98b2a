pub mod Unpaid
pub mod Laws
