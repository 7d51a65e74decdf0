pub mod Alike
pub mod Answering
pub mod Driving
pub mod Exchanging
pub mod Serving
