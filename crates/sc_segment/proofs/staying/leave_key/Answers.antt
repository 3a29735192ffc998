-- The keys up to the one that is found, and those that don't compare equal.
use Rattle.sc_segment.proofs.StayingLemmas.{still-set, passed-found, apart-found}
use Rattle.sc_segment.proofs.staying.leave_key.Goals as goal

pub returns-in-Ok-clause-passed : goal.returns-in-Ok-clause-passed
returns-in-Ok-clause-passed g c =
    let place = c.in-Ok.ensures.place in
    passed-found g.met.K.Key.total c.args.key.now c.args.keys.now.keys c.in-Ok.at place.0 c.requires.ascending place.1 place.2

pub returns-in-Ok-clause-still : goal.returns-in-Ok-clause-still
returns-in-Ok-clause-still g c = λ i stay. still-set c.args.stays.now c.in-Ok.at i stay

pub returns-in-Ok-clause-apart : goal.returns-in-Ok-clause-apart
returns-in-Ok-clause-apart g c =
    let place = c.in-Ok.ensures.place in
    apart-found g.met.K.Key.total c.args.key.now c.args.keys.now.keys c.in-Ok.at place.0 c.requires.ascending place.1 place.2 c.args.stays.now
