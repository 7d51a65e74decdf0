pub mod Invoking
pub mod HadMemories
