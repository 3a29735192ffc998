-- So far the values that are kept are those of the first ones.
use Rattle.std.proofs.Common.{◌≡◌, take}
use Rattle.sc_partial.specs.Changed.{without}
use Rattle.sc_partial.proofs.value.without.Given as goal

abbrev pub invariant-loop-value : goal.invariant-loop-value
invariant-loop-value l = l.kept.items ≡ without (take l.value-index l.list) l.gone
