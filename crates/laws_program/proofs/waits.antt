pub mod Asked
pub mod Calls
pub mod Turned
pub mod Walked
pub mod Told
