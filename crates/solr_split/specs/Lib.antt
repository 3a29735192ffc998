-- What a run leaves, by itself and by a station's crew, by what is asked for, and what a person is told.
pub mod Running
pub mod Scripts
pub mod Runs
pub mod Usage
