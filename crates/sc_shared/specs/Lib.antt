-- What the locks of a collection keep, what the passes of a thread have seen, and what is true of a thread's desk.
pub mod Buckets
pub mod Keepers
pub mod Boards
pub mod Passes
pub mod Collections
pub mod Holding
pub mod NewLocks
pub mod PassCalls
pub mod Sharing
