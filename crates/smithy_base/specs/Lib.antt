pub mod Chain
pub mod Walk
pub mod Requests
pub mod Resolving
pub mod Lending
