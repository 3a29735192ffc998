-- `badge`: the seat that comes keeps the invariant.
use Rattle.std.proofs.Common.{rules}
use Rattle.sc_lock.proofs.lock.Lock.badge.Goals as goal
use Rattle.sc_lock.proofs.SeatLemmas.{visit_keeps}

pub load_new_seat-seat-requires : goal.load_new_seat-seat-requires
load_new_seat-seat-requires g c = (search rules, visit_keeps _ _ _)
