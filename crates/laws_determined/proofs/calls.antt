pub mod Graces
pub mod Guarded
pub mod Asked
