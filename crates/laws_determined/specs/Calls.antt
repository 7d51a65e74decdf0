pub mod Alike
pub mod Asking
