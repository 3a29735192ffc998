-- `draw`: the ticket that is drawn keeps the invariant.
use Rattle.std.proofs.Common.{rules}
use Rattle.sc_lock.proofs.lock.Lock.draw.Goals as goal
use Rattle.sc_lock.proofs.TurnLemmas.{draw_keeps}

pub fetch_add-requires : goal.fetch_add-requires
fetch_add-requires g c = let idle = c.requires.idle in
    (search rules, search rules, draw_keeps _ _ _ _ _ idle.0.0 idle.1)
