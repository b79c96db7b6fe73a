-- The paper's queues and its ready order are lists of tasks: what is said of a list, and the rules of a state over these lists.
pub mod Along
pub mod Rules
pub mod Calls
pub mod Messages
pub mod Orders
