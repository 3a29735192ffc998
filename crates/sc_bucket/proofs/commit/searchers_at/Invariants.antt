-- So far each active slice has its searcher, and there is room for the others.
use Rattle.std.proofs.Common.{◌≡◌, All, length, take, vec_capacity}
use Rattle.sc_bucket.specs.Searchers.{AreOfEachSlice, IsTaken}
use Rattle.sc_bucket.proofs.commit.searchers_at.Given as goal

abbrev pub invariant-loop-at : goal.invariant-loop-at
invariant-loop-at l = record {
  room : vec_capacity l.searchers ≡ length l.bucket.searchers;
  each_slice : AreOfEachSlice (take l.at l.bucket.map) l.searchers.items;
  taken : All (IsTaken l.bucket.map l.bucket.replicas (length l.bucket.journal.entries)) l.searchers.items;
}
