pub mod Closing
pub mod Opened
pub mod Tallied
pub mod Markings
