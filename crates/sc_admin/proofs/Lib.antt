-- What the proofs of the commands share.
pub mod FloatLemmas
pub mod PutLemmas
pub mod RangeLemmas
pub mod PartLemmas
mod DropLemmas
mod DropLoopLemmas
mod DropBoardLemmas
mod DeleteBoardLemmas
mod DeleteLemmas
