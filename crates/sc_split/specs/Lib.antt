-- What a split leaves, and how it is carried out bucket by bucket.
pub mod Buckets
pub mod Stages
pub mod Steps
pub mod Outside
pub mod Splits
pub mod Driving
pub mod Leaving
