-- One hold in which an order is carried out.
use Rattle.std.proofs.Common.{[], ◌∷◌, refl, sym, ap, ◌∙◌, subst, false}
use Rattle.sc_seen.specs.Seen.{Layout, Seen}
use Rattle.sc_seen.specs.declared.stop.Stop.{Stop}
use Rattle.sc_collection.specs.Kept.{Kept}
use Rattle.sc_collection.specs.Desks.{Held, Out, SeesGiven, MayReplace}
use Rattle.sc_update.specs.Steps.{Tries}
use Rattle.sc_seen.specs.Seen.{GoesOn}
use Rattle.sc_collection.proofs.ReplaceLemmas.{answered_may_replace}
use Rattle.sc_collection.proofs.StopLemmas.{stop_is, GoesOn-held, given-back}
use Rattle.sc_update.proofs.OrderLemmas.{accepted-entries, tries}
use Rattle.sc_update.proofs.order.accept_at.Goals as goal

pub give-requires : goal.give-requires
give-requires g c =
    let held : Held = record { number = c.args.b; bucket = c.hold-bucket.result; by_keeper = false } in
    record {
      is_out = (
        held,
        ap (λ (o : Out). o.bucket) c.hold-bucket.ensures.handed.out,
        refl,
        subst (λ (layout : Layout). MayReplace layout held c.accept-answer.new.self) (sym c.hold-bucket.ensures.handed.layout)
            (answered_may_replace (g.D.Desk.layout c.args.desk.now) held c.accept-answer.new.self c.hold-bucket.ensures.handed.is_of c.accept-answer.ensures.sound refl
            c.args.order.now c.args.now c.accept-answer.result (sym c.requires.bucket) c.accept-answer.ensures.accepted c.accept-answer.ensures.refused),
      );
    }

pub returns-clause-keeps : goal.returns-clause-keeps
returns-clause-keeps g c =
    let held : Held = record { number = c.args.b; bucket = c.hold-bucket.result; by_keeper = false } in
    let sees : SeesGiven held c.accept-answer.new.self (g.D.Desk.seen c.args.desk.now) (g.D.Desk.seen c.give.new.self) =
    subst (λ (seen : Seen). SeesGiven held c.accept-answer.new.self seen (g.D.Desk.seen c.give.new.self)) c.hold-bucket.ensures.handed.seen (c.give.ensures.seen held (ap (λ (o : Out). o.bucket) c.hold-bucket.ensures.handed.out)) in
    let added = accepted-entries c.hold-bucket.result c.accept-answer.new.self c.args.order.now c.args.now c.accept-answer.result c.accept-answer.ensures.accepted c.accept-answer.ensures.refused in
    record {
      goes = subst (λ (stop : Stop). GoesOn (g.D.Desk.layout c.args.desk.now) (g.D.Desk.seen c.args.desk.now) (g.D.Desk.seen c.give.new.self) (stop ∷ []))
          (stop_is c.args.b c.entries-place.result c.hold-bucket.result.journal.entries c.is_ok.result _ c.entries-place.ensures.count c.is_ok.ensures.value)
          (GoesOn-held (g.D.Desk.layout c.args.desk.now) (g.D.Desk.seen c.args.desk.now) (g.D.Desk.seen c.give.new.self) held c.accept-answer.new.self _ added.0
          c.requires.within c.hold-bucket.ensures.handed.extends added.1 added.2 sees);
      kept = ap (λ (k : Kept). k.stops) c.keep.ensures;
    }

pub returns-clause-tried : goal.returns-clause-tried
returns-clause-tried g c =
    let held : Held = record { number = c.args.b; bucket = c.hold-bucket.result; by_keeper = false } in
    let sees : SeesGiven held c.accept-answer.new.self (g.D.Desk.seen c.args.desk.now) (g.D.Desk.seen c.give.new.self) =
    subst (λ (seen : Seen). SeesGiven held c.accept-answer.new.self seen (g.D.Desk.seen c.give.new.self)) c.hold-bucket.ensures.handed.seen (c.give.ensures.seen held (ap (λ (o : Out). o.bucket) c.hold-bucket.ensures.handed.out)) in
    subst (λ (stop : Stop). Tries (g.D.Desk.layout c.args.desk.now) (g.D.Desk.seen c.give.new.self) c.args.order.now c.args.now stop c.accept-answer.result)
    (stop_is c.args.b c.entries-place.result c.hold-bucket.result.journal.entries c.is_ok.result _ c.entries-place.ensures.count c.is_ok.ensures.value)
    (tries (g.D.Desk.layout c.args.desk.now) (g.D.Desk.seen c.args.desk.now) (g.D.Desk.seen c.give.new.self) held c.accept-answer.new.self c.args.order.now c.args.now c.accept-answer.result
    c.hold-bucket.ensures.handed.is_of c.requires.bucket c.accept-answer.ensures.accepted c.accept-answer.ensures.refused c.accept-answer.ensures.outcome sees)

pub returns-clause-leaves : goal.returns-clause-leaves
returns-clause-leaves g c = record {
  layout = c.give.ensures.layout ∙ c.hold-bucket.ensures.handed.layout;
  rest = record {
    nothing_out = given-back (g.D.Desk.out c.args.desk.now) (g.D.Desk.out c.hold-bucket.new.self) (g.D.Desk.out c.give.new.self) _
        c.requires.nothing_out c.hold-bucket.ensures.handed.out c.give.ensures.out;
    legal = c.give.ensures.legal;
  };
  requests = ap (λ (k : Kept). k.requests) c.keep.ensures;
}
