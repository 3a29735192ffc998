-- So far the first of the others stand after the list.
use Rattle.std.proofs.Common.{◌≡◌, ◌++◌, take}
use Rattle.sc_partial.proofs.value.with_all.Given as goal

abbrev pub invariant-loop-value : goal.invariant-loop-value
invariant-loop-value l = l.all.items ≡ l.list ++ take l.value-index l.others
