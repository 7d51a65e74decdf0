pub mod Builder
pub mod Built
pub mod ClientLayer
pub mod Plugins
pub mod Preparing
pub mod Priority
pub mod Refusal
pub mod Own
