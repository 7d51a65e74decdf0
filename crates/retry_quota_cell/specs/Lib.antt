pub mod Caller
pub mod Callers
pub mod Exchange
pub mod Fleet
pub mod Known
pub mod Met
pub mod Rule
pub mod View
