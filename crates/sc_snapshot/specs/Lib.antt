-- What the contracts of this crate cite, lowest first.
pub mod Keys
pub mod Rows
pub mod Pieces
pub mod Edits
pub mod Postings
pub mod Ids
pub mod Surveying
pub mod Change
pub mod Making
pub mod Laws
