-- So far the copies are the first values.
use Rattle.std.proofs.Common.{◌≡◌, take}
use Rattle.sc_partial.proofs.value.copies_with_room.Given as goal

abbrev pub invariant-loop-value : goal.invariant-loop-value
invariant-loop-value l = l.copies.items ≡ take l.value-index l.list
