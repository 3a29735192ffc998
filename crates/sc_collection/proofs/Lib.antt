-- What the proofs of this crate share.
pub mod ShapeLemmas
pub mod SlotLemmas
pub mod FollowerLemmas
pub mod PlaceLemmas
pub mod DeskLemmas
pub mod NewLemmas
pub mod OpenedLemmas
pub mod HoldLemmas
pub mod GiveLemmas
pub mod BoardLemmas
pub mod ReplaceLemmas
pub mod KeeperReplaceLemmas
pub mod StopLemmas
pub mod CommitLemmas
pub mod RestLemmas
pub mod DownLemmas
pub mod LookLemmas
