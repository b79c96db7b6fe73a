-- What the queue calls share: a message handed to a waiter.
pub mod Handing
