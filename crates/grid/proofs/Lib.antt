pub mod Laws
pub mod Cells
pub mod Filled
pub mod Cases
