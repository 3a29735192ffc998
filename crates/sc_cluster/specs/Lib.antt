-- What the contracts of this crate cite, lowest first.
pub mod Limits
pub mod Cut
pub mod Tiles
pub mod Slices
pub mod Map
pub mod Plans
pub mod Changes
pub mod Histories
