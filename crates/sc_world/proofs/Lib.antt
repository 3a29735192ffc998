-- Facts on events, one and many.
pub mod ConditionLemmas
pub mod RunLemmas
pub mod LawLemmas
pub mod CatchUpLemmas
pub mod StepLemmas
pub mod OthersLemmas
pub mod SeatLemmas
pub mod EventLemmas
pub mod RestLemmas
