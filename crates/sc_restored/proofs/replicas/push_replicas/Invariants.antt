-- So far the first replicas stand at the end.
use Rattle.std.proofs.Common.{ℕ, map}
use Rattle.std.specs.Arc.{arc_value}
use Rattle.std.specs.List.{range_with_len}
use Rattle.sc_restored.proofs.AddedLemmas.{AddsSome}
use Rattle.sc_restored.proofs.replicas.push_replicas.Given as goal

abbrev pub invariant-loop-below : goal.invariant-loop-below
invariant-loop-below l =
    AddsSome l.slice (map (λ (replica : ℕ). (l.slice.id.0, replica)) (range_with_len 1 l.below)) l.marks (map arc_value l.writes)
    l.initial.replicas.items l.replicas.items
