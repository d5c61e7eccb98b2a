pub mod TimingLemmas
