pub mod SettingsLemmas
pub mod LookingLemmas
