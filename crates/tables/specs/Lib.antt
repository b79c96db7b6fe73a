pub mod Masks
pub mod Slots
