pub mod Attempts
pub mod Choices
pub mod Retries
pub mod Questions
