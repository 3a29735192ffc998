-- The definitions of keys in order.
pub mod Fresh
pub mod Heads
pub mod Searching
pub mod Storing
