-- What a bucket's journal is, which journals can be, and what an order is answered by one.
pub mod Journal
pub mod Limits
pub mod Down
pub mod Seats
pub mod Splits
pub mod Legal
pub mod Computed
pub mod Outcomes
pub mod Committed
pub mod Laws
