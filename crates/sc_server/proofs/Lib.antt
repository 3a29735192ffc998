-- Lemmas.
pub mod WorkerLemmas
pub mod NeedsLemmas
pub mod CrewLemmas
pub mod StoryLemmas
pub mod DismissLemmas
pub mod MatchLemmas
pub mod FrontLemmas
pub mod CauseLemmas
pub mod RunLemmas
pub mod EnlistLemmas
pub mod EndLemmas
pub mod CrossingLemmas
