-- The lemmas of this crate.
pub mod FieldLemmas
pub mod ShortLemmas
