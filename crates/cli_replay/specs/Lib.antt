pub mod Script
pub mod ReplayValue
pub mod Taking
pub mod Replay
pub mod LeftOver
pub mod Laws
