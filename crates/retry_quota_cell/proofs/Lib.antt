pub mod Callings
pub mod Grants
pub mod Lists
pub mod Meets
pub mod Moves
pub mod Orders
pub mod Soundness
pub mod Works
