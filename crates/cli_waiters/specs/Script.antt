pub mod Members
pub mod Script
