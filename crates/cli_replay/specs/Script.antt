pub mod Limits
pub mod Replay
