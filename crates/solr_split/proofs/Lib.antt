-- What the proofs of a run share, and what the usage's examples ask for.
pub mod AskedLemmas
pub mod CrewLemmas
pub mod DemoLemmas
pub mod MapCoreLemmas
pub mod MemoryLemmas
pub mod RestLemmas
pub mod RunLemmas
pub mod ScriptLemmas
pub mod ServerLemmas
pub mod StartedLemmas
mod UsageExamples
