-- `new`: as many doors are made as the loop has counted.
use Rattle.std.proofs.Common.{◌≡◌, vec_len}
use Rattle.sc_lock.proofs.doors.Doors.new.Given as goal

abbrev pub invariant-loop : goal.invariant-loop
invariant-loop l = vec_len l.doors ≡ l.counter
