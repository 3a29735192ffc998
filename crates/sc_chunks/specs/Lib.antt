-- The chunked coding of a body, how bytes that begin with none end, and how far a decoder has come.
pub mod Coding
pub mod Endings
pub mod Progress
pub mod Laws
