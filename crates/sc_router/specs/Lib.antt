-- What the contracts of this crate cite, lowest first.
pub mod Parts
pub mod Route
pub mod Slash
