-- Texts, short texts, the names and kinds of fields, and what a document is.
pub mod Fields
pub mod Shorts
pub mod Texts
