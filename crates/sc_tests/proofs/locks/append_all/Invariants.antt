-- `append_all`: its loop leaves the pass free.
use Rattle.sc_lock.specs.Tokens.{IsPassOf, IsFree, lock_id}
use Rattle.sc_tests.proofs.locks.append_all.Given as goal

abbrev pub invariant-loop-number : goal.invariant-loop-number
invariant-loop-number g l = IsPassOf (lock_id l.lock) l.pass × IsFree l.pass
