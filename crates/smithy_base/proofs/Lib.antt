pub mod Carrying
pub mod ChainTurns
