-- The lemmas of this crate, lowest first.
pub mod DocumentLemmas
pub mod DocPartsLemmas
pub mod TermLemmas
pub mod TermReadLemmas
pub mod TermPushLemmas
pub mod TermRunLemmas
pub mod VersionLemmas
pub mod WriteLemmas
