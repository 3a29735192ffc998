-- Facts on gates.
pub mod GateLemmas
