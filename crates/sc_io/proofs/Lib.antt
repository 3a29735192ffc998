-- What the proofs of readers and of writers share.
pub mod TakenLemmas
pub mod WrittenLemmas
