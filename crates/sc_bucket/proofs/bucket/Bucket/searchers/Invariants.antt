-- So far the searchers that the route asks for of the slices before a place are put after the others, and those of the other slices are
-- left.
use Rattle.std.proofs.Common.{All, drop}
use Rattle.std.specs.Slice.Iter.{iter_rest}
use Rattle.sc_bucket.specs.Searchers.{AreOfEachSlice}
use Rattle.sc_bucket.proofs.AskedLemmas.{AreAdded}
use Rattle.sc_bucket.proofs.SearcherLemmas.{Show}
use Rattle.sc_bucket.proofs.bucket.Bucket.searchers.Given as goal

abbrev pub invariant-loop-at : goal.invariant-loop-at
invariant-loop-at l = record {
  left : AreOfEachSlice (drop l.at l.self.map) (iter_rest l.standings);
  show : All (Show l.self.map l.self.journal.entries) (iter_rest l.standings);
  added : AreAdded l.self.journal.entries l.route l.self.map l.at l.fn.into.items l.into.items;
}
