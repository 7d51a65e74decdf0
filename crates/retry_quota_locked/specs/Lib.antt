pub mod Stake
