mod Chains
mod ByValue
