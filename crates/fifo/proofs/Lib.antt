pub mod Grown
pub mod Counting
pub mod Leaving
pub mod Places
pub mod Grants
pub mod Ends
pub mod Still
