-- What is seen of a collection: of its buckets' journals and of its board's, and what a request is answered by them.
pub mod Board
pub mod Rounds
pub mod BoardLaws
pub mod Seen
pub mod Moments
pub mod Batches
pub mod BatchLaws
pub mod Commits
