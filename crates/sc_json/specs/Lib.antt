-- Which value a body has, what its members are, and which value a document is.
pub mod Bodies
pub mod RawDocs
pub mod Flat
pub mod Documents
pub mod Sent
pub mod Laws
