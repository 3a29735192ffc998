-- What the contracts of this crate cite, lowest first.
pub mod Cells
pub mod Places
pub mod Core
pub mod View
pub mod Deliveries
pub mod Laws
