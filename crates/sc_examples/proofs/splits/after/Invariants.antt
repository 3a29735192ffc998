-- No split is open between two steps.
use Rattle.std.proofs.Common.{◌≡◌, []}
use Rattle.sc_cluster.specs.Slices.{forming}
use Rattle.sc_examples.proofs.splits.after.Given as goal

abbrev pub invariant-loop-words : goal.invariant-loop-words
invariant-loop-words l =
    (goal.iterator-loop-words).can_next l.words-iterator ×
    (goal.iterator-loop-words).is_finite l.words-iterator ×
    (forming l.map ≡ [])
