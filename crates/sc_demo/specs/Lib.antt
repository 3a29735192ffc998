-- What a worker's orders leave, what is found after them, what makers leave beside each other, and what a demonstration leaves and says.
pub mod Writing
pub mod Finding
pub mod Splitting
pub mod Lines
pub mod Together
pub mod Making
pub mod Makers
pub mod Telling
pub mod Demos
