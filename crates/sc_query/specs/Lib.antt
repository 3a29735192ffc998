-- The definitions of the query language.
pub mod Tokens
pub mod Tree
pub mod Grammar
