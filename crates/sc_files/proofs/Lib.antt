mod MemFileLemmas
mod MemoryLemmas
mod StepLemmas
