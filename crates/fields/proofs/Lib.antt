pub mod Stores
pub mod Bytes
pub mod Loops
pub mod Tables
pub mod Testing
pub mod Again
