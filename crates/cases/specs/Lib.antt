pub mod Cases
pub mod Queues
