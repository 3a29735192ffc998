-- The runs so far, then the one that has begun and those of the bytes left.
use Rattle.std.proofs.Common.{◌≡◌, ◌≤◌, ◌-◌, ◌++◌, map, take, drop}
use Rattle.sc_schema.specs.Runs.{runs, runs_from}
use Rattle.sc_schema.proofs.word.runs_of.Given as goal

abbrev pub invariant-loop-at : goal.invariant-loop-at
invariant-loop-at l = record {
  begun : l.start ≤ l.at;
  found : map (λ r. r.now) l.found.items ++ runs_from (take (l.at - l.start) (drop l.start l.text)) (drop l.at l.text) ≡ runs l.text;
}
