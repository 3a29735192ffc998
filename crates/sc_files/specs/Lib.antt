-- What a file of a log holds, what a crash may leave of it, and what the form of it in memory keeps of its calls.
pub mod Images
pub mod States
pub mod Memory
pub mod Steps
pub mod Places
