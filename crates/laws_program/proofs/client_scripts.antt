pub mod Counted
pub mod Outsides
pub mod Clients
pub mod ClientScripts
pub mod FleetScripts
