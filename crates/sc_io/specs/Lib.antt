-- What a read takes, a write gives, a count of faults says, a clock of listed timestamps answers, which cores are started, and which
-- nodes weren't reached.
pub mod Pieces
pub mod Counts
pub mod Memory
pub mod Moments
pub mod Hosts
