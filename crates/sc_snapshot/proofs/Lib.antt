-- The lemmas of this crate.
mod KeyLemmas
mod RowLemmas
mod PostingLemmas
mod LoopLemmas
mod LiveLemmas
mod ChangeLemmas
mod NextLemmas
mod EntryLemmas
mod LostLemmas
mod PieceLemmas
mod EditLemmas
mod PlaceLemmas
mod EditedLemmas
mod PartLemmas
mod SurveyLemmas
mod MadeLemmas
mod IdLemmas
mod IdSearchLemmas
pub mod CountLemmas
