pub mod Names
pub mod SettingForms
pub mod Values
pub mod Readings
pub mod SettingReadings
pub mod AnswerReadings
pub mod Spellable
