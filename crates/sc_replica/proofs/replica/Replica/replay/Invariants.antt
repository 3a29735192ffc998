-- So far the first writes of the buffer were applied.
use Rattle.std.proofs.Common.{◌≡◌}
use Rattle.sc_replica.specs.Core.{replayed_first}
use Rattle.sc_replica.proofs.replica.Replica.replay.Given as goal

abbrev pub invariant-loop-next : goal.invariant-loop-next
invariant-loop-next l = l.self ≡ replayed_first l._next l.fn.self
