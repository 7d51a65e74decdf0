pub mod Callers
pub mod Script
pub mod Limits
pub mod Placed
