-- Nothing was done of the buckets, so the board may have the keepers back at once.
use Rattle.sc_collection.specs.Known.{known_of}
use Rattle.sc_split.proofs.GiveUpLemmas.{begun-owns, begun-may-fail, gives-up-at-once}
use Rattle.sc_split.proofs.driver.fail_unbegun.Goals as goal

pub note_failed-requires-clause-owns : goal.note_failed-requires-clause-owns
note_failed-requires-clause-owns g c =
    begun-owns (g.D.Desk.layout c.args.desk.now) c.requires.begun.0 c.requires.begun.1
    (known_of (g.D.Desk.seen c.args.desk.now) (g.D.Desk.keeping c.args.desk.now c.args.keepers)) c.requires.begun.2

pub note_failed-requires-clause-may : goal.note_failed-requires-clause-may
note_failed-requires-clause-may g c =
    let may = begun-may-fail (g.D.Desk.layout c.args.desk.now) c.requires.begun.0 c.requires.begun.1
    (known_of (g.D.Desk.seen c.args.desk.now) (g.D.Desk.keeping c.args.desk.now c.args.keepers)) c.requires.rests.rest.legal c.requires.begun.2 in
    (c.requires.begun.0.parent, may.0, may.1)

pub returns-clause-given_up : goal.returns-clause-given_up
returns-clause-given_up g c plan entries begun =
    let known = known_of (g.D.Desk.seen c.args.desk.now) (g.D.Desk.keeping c.args.desk.now c.args.keepers) in
    gives-up-at-once (g.D.Desk.layout c.args.desk.now) plan entries known (g.D.Desk.seen c.note_failed.new.desk)
    c.note_failed.ensures.first_map c.note_failed.ensures.first_idle c.requires.rests.rest.legal begun
    (c.note_failed.ensures.noted plan.parent
    (begun-may-fail (g.D.Desk.layout c.args.desk.now) plan entries known c.requires.rests.rest.legal begun).0)
