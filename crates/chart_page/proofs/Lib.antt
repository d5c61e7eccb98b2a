pub mod BarLemmas
pub mod HourLemmas
pub mod OverLemmas
pub mod PageLemmas
pub mod PauseLemmas
pub mod TextLemmas
