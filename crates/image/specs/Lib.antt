pub mod Image
pub mod Reading
pub mod Tests
