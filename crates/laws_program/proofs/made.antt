pub mod Digits
pub mod Shown
pub mod Lengths
pub mod Invocations
pub mod Scripts
