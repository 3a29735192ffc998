-- So far what is owed of the first slices is counted, and each slice owes little.
use Rattle.std.proofs.Common.{◌≡◌, ◌≤◌, ◌+◌, ◌*◌, take}
use Rattle.sc_restored.proofs.OwingLemmas.{owed_of_slices}
use Rattle.sc_restored.proofs.owing.owed_by.Given as goal

abbrev pub invariant-loop-at : goal.invariant-loop-at
invariant-loop-at l = record {
  counted : l.owed ≡ l.unsettled + owed_of_slices (take l.at l.map) l.marks;
  few : l.owed ≤ 16777216 + l.at * 255;
}
