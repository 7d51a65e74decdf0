pub mod Counting
pub mod Makes
pub mod Waiters
