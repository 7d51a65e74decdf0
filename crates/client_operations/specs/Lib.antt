pub mod JsonProtocol
pub mod Polling
pub mod Watching
