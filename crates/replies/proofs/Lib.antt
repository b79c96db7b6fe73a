pub mod Laws
pub mod Images
pub mod Fitting
pub mod Told
