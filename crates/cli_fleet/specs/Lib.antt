pub mod Gated
pub mod Means
pub mod Invoking
pub mod Working
pub mod Print
pub mod Playing
pub mod Fleet
pub mod Steps
