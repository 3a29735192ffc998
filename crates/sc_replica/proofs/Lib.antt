-- The lemmas of this crate, lowest first.
pub mod IdLemmas
pub mod CellLemmas
pub mod PlaceLemmas
pub mod CoreLemmas
pub mod GreatestLemmas
pub mod ConvergeLemmas
pub mod ReplayLemmas
pub mod CoverLemmas
