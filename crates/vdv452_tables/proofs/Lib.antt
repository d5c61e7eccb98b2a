pub mod VersionLemmas
pub mod KeyLemmas
pub mod PartLemmas
pub mod RangeLemmas
pub mod OrderLemmas
pub mod CourseLemmas
pub mod LookUpLemmas
pub mod CourseSizes
