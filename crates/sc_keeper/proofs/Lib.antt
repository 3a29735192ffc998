-- Facts on a bucket's part.
pub mod PartLemmas
pub mod PassLemmas
pub mod ConditionLemmas
pub mod EventLemmas
pub mod SeatLemmas
