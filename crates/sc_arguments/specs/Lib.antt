-- What the arguments ask for, what clap finds of their options, and what the forms and the order of their options mean.
pub mod Arguments
pub mod Found
pub mod Laws
pub mod Options
