pub mod Alike
pub mod Kinds
