-- Facts on what a journal leaves, and on the bucket that is made of it.
mod MarkLemmas
mod UnsettledLemmas
mod MapLemmas
mod WriteLemmas
mod FillLemmas
mod FilledLemmas
mod LastLemmas
mod OwingLemmas
mod CommitPlaceLemmas
mod AddedLemmas
mod ShownLemmas
mod CoreLemmas
mod SoundLemmas
