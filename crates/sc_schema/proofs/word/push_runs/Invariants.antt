-- The runs so far were put at the end.
use Rattle.std.proofs.Common.{◌≡◌, ◌++◌, map, take}
use Rattle.sc_schema.proofs.word.push_runs.Given as goal

abbrev pub invariant-loop-run : goal.invariant-loop-run
invariant-loop-run l = l.keys.items ≡ l.initial.keys.items ++ map (λ r. r.now) (take l.run-index l.run-items)
