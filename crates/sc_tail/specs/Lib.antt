-- What a file of a log holds: frames, and a closed mark after them; what an append that was cut short leaves; what is read.
pub mod Frames
pub mod Files
pub mod Tails
