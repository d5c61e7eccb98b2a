pub mod TripLemmas
pub mod RowLemmas
pub mod TableLemmas
