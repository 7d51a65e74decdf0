pub mod Service
pub mod Parts
pub mod Clients
