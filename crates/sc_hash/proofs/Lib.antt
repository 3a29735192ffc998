-- The lemmas of this crate, lowest first.
pub mod BoundsLemmas
pub mod CutLemmas
pub mod HasherLemmas
pub mod WordLemmas
pub mod RangeLemmas
