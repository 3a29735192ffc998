-- The lemmas of the query language, the lowest first.
pub mod Reading
pub mod Runs
pub mod WorkLemmas
pub mod BytesLemmas
pub mod PlainLemmas
pub mod CutsLemmas
pub mod TokensLemmas
pub mod SoundLemmas
pub mod CompleteLemmas
pub mod FaultsLemmas
pub mod OutcomeLemmas
pub mod StepsLemmas
pub mod EnclosedLemmas
