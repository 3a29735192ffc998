-- What the contracts of this crate cite, lowest first.
pub mod Hash
pub mod Hasher
pub mod Range
pub mod Bounds
