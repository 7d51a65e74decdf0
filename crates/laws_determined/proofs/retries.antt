pub mod Quota
pub mod Limiters
pub mod Decisions
pub mod Retries
pub mod Hooked
