pub mod Closed
pub mod ServeLemmas
pub mod Whole
