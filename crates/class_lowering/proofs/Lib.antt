mod Ranges
mod Losses
mod Walks
