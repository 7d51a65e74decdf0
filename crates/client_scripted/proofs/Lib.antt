pub mod Whole
pub mod Built
