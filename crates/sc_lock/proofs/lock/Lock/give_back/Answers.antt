-- `give_back`: what the seat has and knows after the value was put back, with nothing out.
use Rattle.std.proofs.Common.{ap, sym, ◌∙◌, subst, ◌<◌}
use Rattle.sc_lock.specs.Journal.{ArePlacesIn}
use Rattle.sc_lock.proofs.lock.Lock.give_back.Goals as goal

pub returns-clause-seat : goal.returns-clause-seat
returns-clause-seat g c =
    let holds = c.requires.turn.holds in
    let now = c.put_back-served.ensures.noted holds.0 c.args.turn.handed.value holds.1 in
    let places = c.put_back-served.ensures.places holds.0 c.args.turn.handed.value holds.1 in (
      record {
        of_lock = (λ k. (c.put_back-served.ensures.seat.0 k, (now k).0.origin)) ∙ c.requires.seat.of_lock;
        own = subst (λ m. ArePlacesIn m.0.places m.0.seen) (sym now) places;
        weighs = subst (λ m. 0 < m.0.weight) (sym now) c.requires.seat.weighs;
      },
      (ap (λ m. m.0.stage) now, ap (λ m. m.1) now),
    )

pub returns-clause-seen : goal.returns-clause-seen
returns-clause-seen g c = let holds = c.requires.turn.holds in
    ap (λ m. m.0.seen) (c.put_back-served.ensures.noted holds.0 c.args.turn.handed.value holds.1)

pub returns-clause-places : goal.returns-clause-places
returns-clause-places g c = let holds = c.requires.turn.holds in
    ap (λ m. m.0.places) (c.put_back-served.ensures.noted holds.0 c.args.turn.handed.value holds.1)

pub returns-clause-part : goal.returns-clause-part
returns-clause-part g c = let holds = c.requires.turn.holds in
    ap (λ m. m.0.part) (c.put_back-served.ensures.noted holds.0 c.args.turn.handed.value holds.1)

pub returns-clause-weight : goal.returns-clause-weight
returns-clause-weight g c = let holds = c.requires.turn.holds in
    ap (λ m. m.0.weight) (c.put_back-served.ensures.noted holds.0 c.args.turn.handed.value holds.1)
