-- Facts on values of JSON, on their numbers and on documents as they come.
pub mod JsonLemmas
pub mod FloatLemmas
pub mod RawLemmas
pub mod TurnLemmas
pub mod FlatLemmas
pub mod PlaceLemmas
pub mod LawLemmas
pub mod SentLemmas
