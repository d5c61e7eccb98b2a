mod Ranges
mod Guesses
mod Scaling
