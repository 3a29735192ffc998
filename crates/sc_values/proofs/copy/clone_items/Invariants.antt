-- So far the copies are the first items.
use Rattle.std.proofs.Common.{◌≡◌, take}
use Rattle.sc_values.proofs.copy.clone_items.Given as goal

abbrev pub invariant-loop-item : goal.invariant-loop-item
invariant-loop-item g l = l.copies.items ≡ take l.item-index l.items
