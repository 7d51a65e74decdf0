pub mod Responses
pub mod Identities
pub mod Limits
