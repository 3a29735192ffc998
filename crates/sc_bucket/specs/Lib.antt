-- What a bucket keeps, what is true of it at every moment, and what its events do.
pub mod Kept
pub mod Entries
pub mod Gone
pub mod Searchers
pub mod Asked
pub mod Flight
pub mod Pending
pub mod Sound
pub mod New
pub mod Room
pub mod Events
pub mod Accepting
pub mod Taking
pub mod Moving
pub mod Targets
pub mod Serving
