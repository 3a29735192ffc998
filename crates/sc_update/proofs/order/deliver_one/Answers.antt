-- One hold in which a message is delivered.
use Rattle.std.proofs.Common.{refl, sym, subst, false, ap}
use Rattle.sc_seen.specs.Seen.{Layout, Seen}
use Rattle.sc_collection.specs.Desks.{Held, Out, SeesGiven, MayReplace}
use Rattle.sc_update.proofs.HoldLemmas.{MakeNoEntry-held, MayReplace-delivered, delivered-entries}
use Rattle.sc_update.proofs.order.deliver_one.Goals as goal

pub give-requires : goal.give-requires
give-requires g c =
    let held : Held = record { number = c.args.lock; bucket = c.hold-bucket.result; by_keeper = false } in
    record {
      is_out = (
        held,
        ap (λ (o : Out). o.bucket) c.hold-bucket.ensures.handed.out,
        refl,
        subst (λ (layout : Layout). MayReplace layout held c.deliver.new.self) (sym c.hold-bucket.ensures.handed.layout)
            (MayReplace-delivered (g.D.Desk.layout c.args.desk.now) held c.deliver.new.self c.args.place c.deliver.result
            c.hold-bucket.ensures.handed.is_of c.deliver.ensures.sound refl c.deliver.ensures.delivered),
      );
    }

pub returns-clause-quiet : goal.returns-clause-quiet
returns-clause-quiet g c =
    let held : Held = record { number = c.args.lock; bucket = c.hold-bucket.result; by_keeper = false } in
    let sees : SeesGiven held c.deliver.new.self (g.D.Desk.seen c.args.desk.now) (g.D.Desk.seen c.give.new.self) =
    subst (λ (seen : Seen). SeesGiven held c.deliver.new.self seen (g.D.Desk.seen c.give.new.self)) c.hold-bucket.ensures.handed.seen (c.give.ensures.seen held (ap (λ (o : Out). o.bucket) c.hold-bucket.ensures.handed.out)) in
    MakeNoEntry-held (g.D.Desk.seen c.args.desk.now) (g.D.Desk.seen c.give.new.self) held c.deliver.new.self c.hold-bucket.ensures.handed.extends
    (delivered-entries held.bucket c.deliver.new.self c.args.place c.deliver.result c.deliver.ensures.delivered) sees
