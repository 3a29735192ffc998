-- What the contracts of this crate cite, lowest first.
pub mod Pages
pub mod Laws
pub mod Searches
pub mod SearchLaws
