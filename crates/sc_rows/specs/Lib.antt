-- The definitions of lists of rows and live rows.
pub mod Joining
pub mod Live
pub mod Moving
pub mod Sifting
