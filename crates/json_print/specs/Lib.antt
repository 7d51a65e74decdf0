pub mod Determined
pub mod Endings
pub mod Print
pub mod Laws
pub mod Plain
pub mod World
pub mod Written
