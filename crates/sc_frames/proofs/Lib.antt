-- The lemmas of this crate, lowest first.
pub mod PartLemmas
pub mod DocLemmas
pub mod WriteLemmas
pub mod SubLemmas
pub mod EntryLemmas
pub mod BodyLemmas
pub mod PushLemmas
pub mod LengthLemmas
pub mod HeadLemmas
pub mod TermLemmas
