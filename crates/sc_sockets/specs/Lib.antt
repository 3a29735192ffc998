-- How long a client may keep its worker waiting, and which crews are out.
pub mod Patience
pub mod Moves
