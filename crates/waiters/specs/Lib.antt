pub mod Builder
pub mod Calls
pub mod Count
pub mod Delay
pub mod Steps
pub mod Walk
pub mod WalkCalls
