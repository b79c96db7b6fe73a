-- What holds of the seats that say queues, whatever moves on them: those of one queue are counted, left and joined.
pub mod Counting
pub mod Apart
pub mod Leaving
pub mod Joining
pub mod First
pub mod Rule
pub mod Rings
pub mod Sorting
