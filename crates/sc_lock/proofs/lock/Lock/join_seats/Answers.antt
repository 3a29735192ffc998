-- `join_seats`: the join and the look after it keep the invariant, and what the seat knows then.
use Rattle.std.proofs.Common.{rules, ap, sym, subst}
use Rattle.sc_lock.specs.Journal.{ArePlacesIn}
use Rattle.sc_lock.proofs.lock.Lock.join_seats.Goals as goal
use Rattle.sc_lock.proofs.PrefixLemmas.{IsLongest-longer}
use Rattle.sc_lock.proofs.JoinLemmas.{join_keeps, settle_keeps}

pub join_seat-requires : goal.join_seat-requires
join_seat-requires g c =
    let idle = c.requires.idle in
    let keeps = join_keeps _ _ g.met.K.Kept.owned_stays _ _ _ _ idle.0.0 idle.1.0 in
    (search rules, search rules, search rules, search rules, keeps)

pub load-requires : goal.load-requires
load-requires g c = let stage = ap (λ m. m.0.stage) c.join_seat.ensures.2 in
    (search rules, search rules, settle_keeps _ _ _ _ _ _ _ _ _ stage)

pub returns-clause-longest : goal.returns-clause-longest
returns-clause-longest g c = let stage = ap (λ m. m.0.stage) c.join_seat.ensures.2 in
    IsLongest-longer _ _ (c.load.ensures.2 _ _ _ _ stage).1

pub returns-clause-disjoint : goal.returns-clause-disjoint
returns-clause-disjoint g c = let stage = ap (λ m. m.0.stage) c.join_seat.ensures.2 in
    (c.load.ensures.2 _ _ _ _ stage).2

pub returns-clause-places : goal.returns-clause-places
returns-clause-places g c =
    let stage = ap (λ m. m.0.stage) c.join_seat.ensures.2 in
    let shown = c.load.ensures.2 _ _ _ _ stage in
    subst (λ m. ArePlacesIn m.0.places m.0.seen) (sym shown.0) shown.3
