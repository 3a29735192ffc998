-- What a bucket is that was made of its journal, what an entry says of a seat and makes of a map.
pub mod Marks
pub mod Course
pub mod Restored
