-- What a board keeps, which replicas lead, what is true of it, why a call is refused, what a call changes, and what is true of a board that
-- follows a journal which was kept.
pub mod Kept
pub mod Leaders
pub mod Boards
pub mod Splits
pub mod Drops
pub mod Leads
pub mod Events
pub mod Restored
