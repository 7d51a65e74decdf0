pub mod Means
pub mod Opening
pub mod Tally
pub mod Report
pub mod Client
pub mod Marked
pub mod Moments
