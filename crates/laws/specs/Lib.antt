-- What it means that seats say queues, and that the places of a pool's buffers say an order.
pub mod Seating
pub mod Order
