pub mod Events
pub mod Messages
pub mod Replies
