mod Told
pub mod Attempts
