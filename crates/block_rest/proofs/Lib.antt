mod Pricings
pub mod Apart
pub mod Kept
pub mod Lows
pub mod Same
