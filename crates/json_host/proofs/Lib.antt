pub mod Nothing
pub mod OneItem
