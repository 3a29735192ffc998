-- What the proofs of the decoder share.
pub mod ChunkLemmas
pub mod LineLemmas
pub mod CodingLemmas
pub mod StuckLemmas
pub mod OpenLemmas
pub mod EndLemmas
pub mod ChunkLineLemmas
pub mod LineStepLemmas
pub mod DataStepLemmas
pub mod TrailerStepLemmas
pub mod AdvanceLemmas
pub mod DecoderLemmas
