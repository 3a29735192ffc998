-- The lemmas of this crate, lowest first.
mod MergeLemmas
pub mod OrderLemmas
pub mod AscendLemmas
mod GatherLemmas
mod StartLemmas
mod CountLemmas
mod StepLemmas
pub mod HitLemmas
mod LookedLemmas
pub mod FoundLemmas
