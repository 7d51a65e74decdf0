pub mod Model
pub mod Service
pub mod Sending
