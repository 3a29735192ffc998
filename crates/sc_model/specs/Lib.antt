-- The definitions of HTTP's messages that the promises of the crates above cite, lowest first.
pub mod Parameters
pub mod Counts
pub mod Heads
pub mod Messages
pub mod Replies
