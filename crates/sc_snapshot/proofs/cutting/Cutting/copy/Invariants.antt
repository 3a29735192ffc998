-- So far the first of these rows are copied.
use Rattle.std.proofs.Common.{◌≡◌, ◌++◌, ◌-◌, ◌≤◌, take, drop}
use Rattle.sc_snapshot.proofs.cutting.Cutting.copy.Given as goal

abbrev pub invariant-copying : goal.invariant-copying
invariant-copying l = record {
  from : l.from ≤ l.at;
  to : l.at ≤ l.to;
  rows : l.self ≡ l.fn.self ++ take (l.at - l.from) (drop l.from l.rows);
}

abbrev pub decreases-copying : goal.decreases-copying
decreases-copying l = l.to - l.at
