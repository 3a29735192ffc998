-- The definitions of posting lists.
pub mod Carrying
pub mod Filing
pub mod Flat
pub mod Index
pub mod Placing
pub mod Storing
