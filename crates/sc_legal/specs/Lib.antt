-- What a checker of a journal has passed, what it keeps of that, and what an entry that it is handed has to have.
pub mod Passed
pub mod Kept
