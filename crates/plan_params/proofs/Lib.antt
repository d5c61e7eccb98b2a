pub mod FaultLemmas
pub mod IndexLemmas
pub mod RangeLemmas
