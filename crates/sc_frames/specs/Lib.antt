-- The entries of a journal as they are stored, their bytes, the first entry of a file, and how bytes are read.
pub mod Stored
pub mod Entries
pub mod Heads
pub mod Reading
