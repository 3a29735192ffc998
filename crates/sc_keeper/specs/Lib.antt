-- What only a bucket's keeper changes of it, and what each event makes of that.
pub mod Part
pub mod Conditions
pub mod Events
pub mod Laws
