pub mod DeterminedLemmas
pub mod WakeLemmas
