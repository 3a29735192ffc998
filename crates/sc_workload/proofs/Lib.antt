-- Facts on the orders of a workload: those up to a place, and those on one document; batches, and the documents.
pub mod PlaceLemmas
pub mod LawLemmas
pub mod BatchLemmas
pub mod DocumentLemmas
