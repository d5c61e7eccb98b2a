pub mod FileLemmas
pub mod InputLemmas
pub mod JoinLemmas
pub mod PieceLemmas
pub mod LineLemmas
