-- The lemmas of lists of rows and live rows.
pub mod BitsLemmas
pub mod JoinLemmas
pub mod MovedLemmas
pub mod NumberLemmas
pub mod OwnLemmas
pub mod RangeLemmas
pub mod SameRowsLemmas
pub mod SiftingLemmas
pub mod StartLemmas
