-- The shape of a collection.
pub mod ShapeLemmas
