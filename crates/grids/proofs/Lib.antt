pub mod Counting
pub mod Along
pub mod Noted
pub mod Holds
pub mod Grids
pub mod Filling
pub mod Books
