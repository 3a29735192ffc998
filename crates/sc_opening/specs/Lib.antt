-- What an opened collection makes of the journals that were kept of its buckets.
pub mod Changes
pub mod Same
pub mod Running
pub mod Closed
pub mod Collections
pub mod Room
pub mod Laws
