pub mod Configuring
pub mod Deciding
pub mod Hooking
pub mod Initially
pub mod Meanings
pub mod Offering
pub mod Strategies
