-- The cores of a bucket, and what serves the searches of its slices.
pub mod Cores
pub mod Searchers
