-- The lemmas, from plain lists up to the steps that keep the invariant.
pub mod SumLemmas
pub mod PrefixLemmas
pub mod PlaceLemmas
pub mod InvariantLemmas
pub mod TurnLemmas
pub mod GiveLemmas
pub mod SeatLemmas
pub mod JoinLemmas
