pub mod Means
pub mod Invoking
pub mod Noted
pub mod Print
pub mod Running
