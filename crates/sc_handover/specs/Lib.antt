-- When the events of a split may come, what they change, and what their parts do.
pub mod Conditions
pub mod Made
pub mod Preparing
pub mod Events
pub mod Seats
pub mod AnyEvent
pub mod Feeding
pub mod Parts
