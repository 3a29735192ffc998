-- The lemmas of keys in order.
pub mod FrontLemmas
pub mod HeadLemmas
pub mod SearchLemmas
pub mod StoringLemmas
