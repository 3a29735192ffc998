-- The lemmas of this crate, lowest first.
mod WorkLemmas
mod SpineLemmas
mod TermLemmas
mod OperandLemmas
pub mod NumberLemmas
mod StepLemmas
mod FaultLemmas
