-- What holds of the areas of pools, their buffers and the marks of those out.
pub mod Sizes
pub mod Marks
pub mod Bytes
pub mod Buffers
