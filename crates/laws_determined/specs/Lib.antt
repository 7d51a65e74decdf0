pub mod Auth
pub mod Calls
pub mod Client
pub mod Retries
pub mod Steady
