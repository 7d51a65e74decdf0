pub mod Encoding
pub mod Query
pub mod Signing
