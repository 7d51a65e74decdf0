pub mod Backoff
pub mod Classifying
pub mod Decision
pub mod Interceptors
pub mod Standing
pub mod Steps
pub mod Verdict
