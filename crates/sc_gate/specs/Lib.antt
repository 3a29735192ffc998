-- What a gate keeps of the journals that a desk sees.
pub mod Gates
