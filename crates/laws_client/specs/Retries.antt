pub mod Telling
pub mod Attempting
