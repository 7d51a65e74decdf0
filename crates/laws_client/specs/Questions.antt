pub mod Handing
pub mod Answering
pub mod Loading
pub mod OwnLoads
pub mod Calling
pub mod Sleeping
