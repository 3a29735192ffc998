-- So far the parts are the first ones of the cut.
use Rattle.std.proofs.Common.{◌≡◌, map}
use Rattle.sc_hash.specs.Bounds.{bounds}
use Rattle.sc_cluster.specs.Cut.{first_parts}
use Rattle.sc_cluster.proofs.parts.parts_of.Given as goal

abbrev pub invariant-loop-i : goal.invariant-loop-i
invariant-loop-i l = map bounds l.parts.items ≡ first_parts l.range.min l.range.max l.n l.i
