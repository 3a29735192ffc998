-- So far no slice is being made.
use Rattle.std.proofs.Common.{◌≡◌, [], take}
use Rattle.sc_cluster.specs.Slices.{forming}
use Rattle.sc_cluster.proofs.query.is_idle.Given as goal

abbrev pub invariant-loop-slice : goal.invariant-loop-slice
invariant-loop-slice l = forming (take l.slice-index l.slices) ≡ []
