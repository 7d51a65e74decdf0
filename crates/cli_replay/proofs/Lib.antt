pub mod Taken
pub mod Saying
pub mod Serving
pub mod Spelling
pub mod Determined
pub mod Reached
