-- What the clock of a worker gives, what its crew reports, what workers and a server need, and what they leave.
pub mod Clocks
pub mod Reports
pub mod Working
pub mod Needs
pub mod Crews
pub mod Serving
