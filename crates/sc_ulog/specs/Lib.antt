-- The definitions of the update log.
pub mod LogState
