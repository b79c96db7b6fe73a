-- The line of an answer's bytes, and how text is lent.
pub mod Lines
