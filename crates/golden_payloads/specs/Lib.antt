pub mod Model
pub mod Declaration
pub mod Refusals
