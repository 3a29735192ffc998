-- What a reader takes from its source, how its bytes end, and what a parsed head says.
pub mod Stream
pub mod Bodies
pub mod Ends
pub mod Lines
pub mod Laws
pub mod HeadEnd
pub mod LineEnds
pub mod ReplyHead
