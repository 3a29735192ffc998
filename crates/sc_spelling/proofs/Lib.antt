-- The lemmas of this crate, lowest first.
pub mod NumberLemmas
pub mod ValueLemmas
pub mod FieldLemmas
pub mod DocumentLemmas
pub mod LoopLemmas
pub mod KnownLemmas
pub mod LengthLemmas
