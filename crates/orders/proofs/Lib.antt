pub mod Placing
pub mod Marking
pub mod Ringing
