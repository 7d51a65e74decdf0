pub mod Conversing
pub mod Description
pub mod Means
pub mod Opening
