pub mod PlainLemmas
pub mod SignedLemmas
