pub mod Pairs
pub mod Ones
