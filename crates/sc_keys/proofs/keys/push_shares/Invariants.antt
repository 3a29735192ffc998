-- The pieces that were passed have a share each at the end.
use Rattle.std.proofs.Common.{◌≡◌, ◌++◌, take}
use Rattle.sc_keys.specs.Storing.{stored_in}
use Rattle.sc_keys.proofs.keys.push_shares.Given as goal

abbrev pub invariant-loop-piece : goal.invariant-loop-piece
invariant-loop-piece g l = stored_in l.list.items ≡ stored_in l.fn.list.items ++ stored_in (take l.piece-index l.pieces)
