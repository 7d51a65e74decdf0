pub mod Running
pub mod Buckets
pub mod Invoked
pub mod Moments
