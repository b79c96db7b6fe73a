-- What the calls that may wait share.
pub mod Calls
