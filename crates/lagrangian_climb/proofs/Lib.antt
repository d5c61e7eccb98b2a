mod InPlay
mod Gains
mod Walks
mod Keeps
mod Ranges
