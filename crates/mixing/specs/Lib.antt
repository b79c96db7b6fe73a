pub mod Mixes
pub mod Playing
