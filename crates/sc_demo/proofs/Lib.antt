-- Lemmas.
pub mod BatchLemmas
pub mod WritingLemmas
pub mod MergeLemmas
pub mod StopLemmas
pub mod AnswerLemmas
pub mod TogetherLemmas
pub mod NumberLemmas
pub mod MadeLemmas
pub mod MakerLemmas
pub mod CrewLemmas
pub mod PartLemmas
pub mod SayLemmas
pub mod DemoLemmas
pub mod TellLemmas
pub mod CrossingLemmas
