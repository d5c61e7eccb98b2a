pub mod OptionLemmas
pub mod RequestLemmas
pub mod MadeRequests
