-- The grant grid, how it is kept beside the state, and how it is filled from a list.
pub mod Grid
pub mod Keeping
pub mod Filling
