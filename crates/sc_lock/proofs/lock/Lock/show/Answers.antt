-- `show`: the split keeps the invariant.
use Rattle.std.proofs.Common.{rules}
use Rattle.sc_lock.proofs.lock.Lock.show.Goals as goal
use Rattle.sc_lock.proofs.SeatLemmas.{beside_keeps}

pub split_seat-from_pass-requires : goal.split_seat-from_pass-requires
split_seat-from_pass-requires g c = (search rules, search rules, beside_keeps _ _ _ _ c.requires.pass.1.0)
