-- A step through an image, for C: what it leaves of the bytes, its answer as bytes, and which answer the parts of one tell.
pub mod Told
pub mod Answers
pub mod Steps
