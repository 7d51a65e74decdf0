pub mod Alike
pub mod Merging
pub mod Prioritizing
pub mod Refusing
