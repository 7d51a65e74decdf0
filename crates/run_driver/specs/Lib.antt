pub mod Driving
pub mod Running
