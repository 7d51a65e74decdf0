pub mod Picked
pub mod Looked
pub mod Chosen
pub mod Applied
pub mod Signatures
