-- What a change makes of a field, what changes make of a document, and how that is put together.
pub mod Changed
pub mod Resolved
pub mod Laws
pub mod Runs
