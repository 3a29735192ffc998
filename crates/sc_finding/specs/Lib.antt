-- What the contracts of this crate cite, lowest first.
pub mod Lists
pub mod Merging
pub mod SearcherRows
pub mod Steps
pub mod Hits
