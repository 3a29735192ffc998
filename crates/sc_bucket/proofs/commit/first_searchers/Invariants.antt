-- So far each slice has its searcher.
use Rattle.std.proofs.Common.{All, List, take}
use Rattle.sc_replica.specs.Core.{Core}
use Rattle.sc_replicas.specs.Cores.{IsNewCore}
use Rattle.sc_bucket.specs.Searchers.{AreOfEachSlice, AreLed, IsTaken}
use Rattle.sc_bucket.proofs.commit.first_searchers.Given as goal

abbrev pub invariant-loop-at : goal.invariant-loop-at
invariant-loop-at l = record {
  each_slice : AreOfEachSlice (take l.at l.slices) l.searchers.items;
  taken : (cores : List Core) → AreLed l.slices cores → All IsNewCore cores → All (IsTaken l.slices cores 0) l.searchers.items;
}
