pub mod Paid
pub mod Runs
pub mod Clients
pub mod Scripts
pub mod Made
pub mod Hosts
