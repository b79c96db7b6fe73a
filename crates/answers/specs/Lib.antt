-- An answer in place: the state is changed where it lies, and the rest of the answer is an outcome; what a step in place leaves.
pub mod Outcomes
pub mod Columns
pub mod Steps
