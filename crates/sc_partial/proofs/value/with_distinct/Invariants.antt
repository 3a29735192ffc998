-- So far the first of the others stand after the list, where they were not in it.
use Rattle.std.proofs.Common.{◌≡◌, take}
use Rattle.sc_partial.specs.Changed.{with_distinct}
use Rattle.sc_partial.proofs.value.with_distinct.Given as goal

abbrev pub invariant-loop-value : goal.invariant-loop-value
invariant-loop-value l = l.all.items ≡ with_distinct l.list (take l.value-index l.others)
