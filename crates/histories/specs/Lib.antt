pub mod Sound
pub mod History
pub mod Books
pub mod Refusals
pub mod Order
pub mod Scripts
