-- What a move of a crew changes.
pub mod MovesLemmas
