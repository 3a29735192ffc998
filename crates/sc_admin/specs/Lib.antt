-- What commands ask of the collection, and what their answers are.
pub mod Ranges
pub mod Commands
pub mod Cuts
pub mod Status
pub mod Splits
pub mod Deletes
pub mod Dropping
