-- What a get shows, by the journals that were seen.
pub mod Got
