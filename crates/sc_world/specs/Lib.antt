-- What each event does to a bucket, and what becomes of a bucket by a list of them.
pub mod Steps
pub mod Runs
pub mod Laws
pub mod Others
pub mod Rests
pub mod Checks
