-- So far the first rows have their shares.
use Rattle.std.proofs.Common.{◌≡◌, map, filter, take}
use Rattle.std.specs.Arc.{arc_value}
use Rattle.sc_snapshot.specs.Rows.{is_within}
use Rattle.sc_bucket.proofs.feed.shares_of.Given as goal

abbrev pub invariant-loop-at : goal.invariant-loop-at
invariant-loop-at g l = map arc_value l.shares.items ≡ filter (is_within l.range) (take l.at l.snapshot.rows)
