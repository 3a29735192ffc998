-- What an update leaves.
pub mod Updated
pub mod Moments
pub mod Steps
