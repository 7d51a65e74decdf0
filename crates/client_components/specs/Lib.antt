pub mod Calling
pub mod Choosing
pub mod Lacking
pub mod Meaning
pub mod Paying
pub mod Resting
pub mod Retrying
pub mod Serving
