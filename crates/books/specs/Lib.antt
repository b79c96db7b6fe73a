-- Demand 3, "with releases, grants, gets and returns counted from the answers": what a history tells, the semaphores' books and
-- the pools'.
pub mod Past
pub mod Waiting
pub mod Times
pub mod Held
pub mod Link
pub mod Told
