pub mod Each
pub mod Prioritized
pub mod Resting
pub mod Invoked
pub mod Ran
pub mod Opened
pub mod Told
pub mod Said
