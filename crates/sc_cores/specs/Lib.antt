-- What the cores of slices are called, where they stand, and which of them are started.
pub mod Cores
