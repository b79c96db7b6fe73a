-- Over histories: the grid that is kept, and the grants that the answers tell.
pub mod Grants
pub mod Kept
