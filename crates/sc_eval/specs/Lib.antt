-- What the contracts of this crate cite, lowest first.
pub mod Criteria
pub mod Binding
pub mod Spine
pub mod Matching
pub mod Operands
pub mod Numbers
pub mod Unjoined
pub mod Laws
