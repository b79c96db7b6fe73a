pub mod Numbers
pub mod Columns
pub mod Fields
pub mod Tests
