-- The lemmas of this crate, lowest first.
mod BetweenLemmas
mod PageLemmas
mod ExactlyLemmas
mod BucketLemmas
mod SearchLemmas
mod DeterminedLemmas
mod LawLemmas
