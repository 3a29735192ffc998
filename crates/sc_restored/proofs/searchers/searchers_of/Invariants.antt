-- So far each active one of the first slices has its searcher.
use Rattle.std.proofs.Common.{map}
use Rattle.std.specs.Arc.{arc_value}
use Rattle.sc_restored.proofs.ShownLemmas.{AreFirstShown}
use Rattle.sc_restored.proofs.searchers.searchers_of.Given as goal

abbrev pub invariant-loop-at : goal.invariant-loop-at
invariant-loop-at l = AreFirstShown l.map l.at l.place (map arc_value l.writes.items) l.searchers.items
