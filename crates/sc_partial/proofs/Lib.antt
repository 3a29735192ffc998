-- The lemmas of this crate, lowest first.
pub mod NameLemmas
pub mod ValueLemmas
pub mod MergeLemmas
pub mod StepLemmas
pub mod RunLemmas
pub mod DocumentLemmas
pub mod DistinctLemmas
pub mod TurnLemmas
pub mod WholeLemmas
