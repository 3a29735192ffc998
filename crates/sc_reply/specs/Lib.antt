-- The bodies of answers and the messages of refusals.
pub mod Bodies
pub mod Refusals
pub mod Causes
