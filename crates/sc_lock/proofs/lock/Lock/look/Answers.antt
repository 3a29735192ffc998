-- `look`: the look, which takes the value where the ticket is served, keeps the invariant.
use Rattle.std.proofs.Common.{rules}
use Rattle.sc_lock.proofs.lock.Lock.look.Goals as goal
use Rattle.sc_lock.proofs.TurnLemmas.{look_keeps}

pub load-requires : goal.load-requires
load-requires g c = let waits = c.requires.waits in
    (search rules, search rules, look_keeps _ _ _ _ _ waits.0 waits.1 waits.3)
