-- Facts on what is kept of a journal, lowest first.
mod UnsettledLemmas
mod VersionLemmas
mod DownLemmas
mod KeptLemmas
mod FoundLemmas
mod MayLemmas
mod PassLemmas
mod WholeLemmas
