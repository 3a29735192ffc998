-- The greatest id so far and that of the rest give the greatest of all.
use Rattle.std.proofs.Common.{◌≡◌, max, drop}
use Rattle.sc_cluster.specs.Slices.{greatest_id}
use Rattle.sc_cluster.proofs.query.greatest_id.Given as goal

abbrev pub invariant-loop-slice : goal.invariant-loop-slice
invariant-loop-slice l = max l.greatest (greatest_id (drop l.slice-index l.slices)) ≡ greatest_id l.slices
