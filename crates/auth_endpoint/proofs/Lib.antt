pub mod PreferenceLemmas
pub mod ChoiceLemmas
pub mod WalkLemmas
pub mod CauseLemmas
pub mod Lawful
