pub mod Sleeping
pub mod Answered
pub mod Served
pub mod Driven
