-- Facts on boards, lowest first.
pub mod NamedLemmas
pub mod LeaderLemmas
pub mod FollowLemmas
pub mod SoundLemmas
pub mod LastLemmas
pub mod CauseLemmas
pub mod OwnedLemmas
