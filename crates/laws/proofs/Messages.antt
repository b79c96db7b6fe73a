-- What holds of the cells that messages are held in, and of the one form of what a queue holds.
pub mod Parts
pub mod Forms
pub mod Views
pub mod Stores
pub mod Keeps
pub mod OneForm
pub mod Kept
