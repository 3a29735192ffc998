-- `split_pass`: the split keeps the invariant.
use Rattle.std.proofs.Common.{rules}
use Rattle.sc_lock.proofs.lock.Lock.split_pass.Goals as goal
use Rattle.sc_lock.proofs.SeatLemmas.{split_keeps}

pub split_seat-seat-requires : goal.split_seat-seat-requires
split_seat-seat-requires g c =
    (search rules, search rules, split_keeps _ _ _ _ _ 1 c.requires.pass.1.0 (search rules))
