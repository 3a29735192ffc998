-- How a desk hands out the buckets of a collection and its board, what a commit of all buckets leaves, which nodes of cores that were
-- noted as down could not be reached, what a trail keeps, and what a collection may be opened with.
pub mod Kept
pub mod Packed
pub mod Downs
pub mod Opening
pub mod Shapes
pub mod Desks
pub mod Resting
pub mod Handing
pub mod Known
pub mod Committing
pub mod Looks
pub mod Alone
pub mod Opened
