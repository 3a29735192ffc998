-- How a document's fields are spelled as bytes, how such bytes are read, and what is lent of them.
pub mod Spellings
pub mod Reading
pub mod Lent
