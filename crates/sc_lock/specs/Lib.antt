-- The definitions that the contracts cite, from plain lists up to the invariant of the lock.
pub mod Journal
pub mod Views
pub mod Invariant
pub mod Steps
pub mod Tokens
pub mod Calls
