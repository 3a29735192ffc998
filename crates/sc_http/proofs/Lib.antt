-- What the proofs of the reader and the writer share.
pub mod HeadEndLemmas
pub mod LineEndLemmas
pub mod LineLimitLemmas
pub mod LineSplitLemmas
pub mod EndingLemmas
pub mod StreamLemmas
pub mod MessageLemmas
pub mod HeaderLemmas
pub mod FramingLemmas
pub mod ParsedLemmas
pub mod ProgressLemmas
pub mod ChunkedLemmas
pub mod ReaderLemmas
pub mod ReplyLemmas
