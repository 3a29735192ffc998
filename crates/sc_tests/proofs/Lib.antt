-- Passes of threads.
mod PassLemmas
