-- What the body of an update asks for.
pub mod Commands
pub mod Updates
pub mod Listed
