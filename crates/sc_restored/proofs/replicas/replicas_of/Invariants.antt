-- So far each of the first slices has its cores.
use Rattle.std.proofs.Common.{map}
use Rattle.std.specs.Arc.{arc_value}
use Rattle.sc_restored.proofs.AddedLemmas.{AreFirstRestored}
use Rattle.sc_restored.proofs.replicas.replicas_of.Given as goal

abbrev pub invariant-loop-at : goal.invariant-loop-at
invariant-loop-at l = AreFirstRestored l.slices l.at l.marks (map arc_value l.writes) l.replicas.items
