-- Facts on lists of cores.
mod MapLemmas
pub mod StopLemmas
pub mod AmongLemmas
pub mod ChangeLemmas
