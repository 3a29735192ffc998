-- What a document's members may be, and the order that they ask for.
pub mod Documents
pub mod NewDocuments
pub mod Keys
pub mod Raw
pub mod Runs
pub mod Terms
pub mod Values
