-- The lemmas of posting lists.
pub mod AddingLemmas
pub mod AheadLemmas
pub mod EntryLemmas
pub mod FilingLemmas
pub mod FlatLemmas
pub mod HasRowLemmas
pub mod IndexLemmas
pub mod MembersLemmas
pub mod OwnLemmas
pub mod PlacingLemmas
pub mod RowsLemmas
pub mod SortingLemmas
pub mod StayingLemmas
pub mod StoringLemmas
pub mod TallyLemmas
