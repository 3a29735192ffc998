-- The lemmas of this crate, lowest first.
pub mod MarkLemmas
pub mod SlashLemmas
pub mod CountLemmas
pub mod ShareLemmas
pub mod BlockLemmas
pub mod OpenRouteLemmas
