-- The fields and changes that are left make what all make; each step takes one of them, or both.
use Rattle.std.proofs.Common.{◌+◌, length}
use Rattle.sc_partial.specs.Runs.{next_fields}
use Rattle.sc_partial.proofs.RunLemmas.{IsSpelledSoFar}
use Rattle.sc_partial.proofs.merge.merged.Given as goal

abbrev pub invariant-loop-change : goal.invariant-loop-change
invariant-loop-change l = IsSpelledSoFar l.fn.old l.changes (next_fields l.next l.fields) l.changes_left l.made

abbrev pub decreases-loop-change : goal.decreases-loop-change
decreases-loop-change l = length (next_fields l.next l.fields) + length l.changes_left
