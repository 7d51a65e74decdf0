pub mod Dues
pub mod Past
pub mod Steady
