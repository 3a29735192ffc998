-- Facts on values and on changes of fields.
pub mod BuildLemmas
pub mod FitLemmas
pub mod FoldLemmas
pub mod KeyLemmas
pub mod LentLemmas
pub mod PartLemmas
pub mod NewDocumentLemmas
pub mod PlaceLemmas
pub mod PushLemmas
pub mod RunLemmas
pub mod ScanLemmas
pub mod ValueLemmas
