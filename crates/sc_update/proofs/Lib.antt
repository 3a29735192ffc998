-- Facts on updates.
pub mod OrderLemmas
pub mod HoldLemmas
pub mod AnswerLemmas
pub mod OnceLemmas
pub mod BatchLemmas
pub mod TakeLemmas
pub mod UpdateLemmas
