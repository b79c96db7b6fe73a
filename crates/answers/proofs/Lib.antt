pub mod Outcomes
pub mod Steps
pub mod One
