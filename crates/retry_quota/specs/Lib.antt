pub mod Book
pub mod Caller
pub mod Calls
pub mod History
pub mod Meaning
pub mod Place
pub mod Registers
