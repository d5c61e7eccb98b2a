pub mod Refusals
pub mod RowSteps
mod FoundLemmas
mod RowKeyLemmas
