-- So far those are found that are in the range, of those that were looked at.
use Rattle.std.proofs.Common.{◌≡◌, map, take, filter}
use Rattle.std.specs.Arc.{arc_value}
use Rattle.sc_snapshot.specs.Rows.{is_within, lent}
use Rattle.sc_bucket.proofs.changes.within.Given as goal

abbrev pub invariant-loop-cell : goal.invariant-loop-cell
invariant-loop-cell l = map lent l.found.items ≡ filter (is_within l.range) (map arc_value (take l.cell-index l.writes))
