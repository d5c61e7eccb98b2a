pub mod Found
pub mod Apart
pub mod Belongs
pub mod Pricings
