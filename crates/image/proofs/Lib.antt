pub mod Calls
pub mod Order
pub mod Back
pub mod Image
pub mod Tests
pub mod Front
