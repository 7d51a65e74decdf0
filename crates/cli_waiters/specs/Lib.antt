pub mod Fleet
pub mod Print
pub mod Waiters
pub mod Script
