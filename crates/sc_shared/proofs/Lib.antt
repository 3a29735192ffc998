-- What the proofs of this crate share.
pub mod HoldLemmas
pub mod GiveLemmas
pub mod KeeperLemmas
pub mod BucketLemmas
pub mod BoardLemmas
pub mod NewLockLemmas
pub mod SplitPassLemmas
pub mod JoinPassLemmas
