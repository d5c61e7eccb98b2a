pub mod DayLemmas
