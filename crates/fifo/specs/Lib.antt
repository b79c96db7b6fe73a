-- M-111, "How long can a FIFO waiter wait?": what a history's answers tell of a waiter's place, and what is claimed of it.
pub mod Places
pub mod Claims
