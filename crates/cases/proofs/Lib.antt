pub mod Quick
pub mod Proved
