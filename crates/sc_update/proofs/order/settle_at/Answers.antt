-- The hold in which a write is settled, after those that deliver its messages.
use Rattle.std.proofs.Common.{◌≡◌, [], ◌∷◌, refl, sym, ap, ◌∙◌, subst, false}
use Rattle.sc_seen.specs.Seen.{Layout, Seen}
use Rattle.sc_seen.specs.Batches.{IsSettling}
use Rattle.sc_seen.specs.declared.stop.Stop.{Stop}
use Rattle.sc_bucket.specs.declared.bucket.Bucket.{Bucket}
use Rattle.sc_collection.specs.Kept.{Kept}
use Rattle.sc_collection.specs.Desks.{Held, Out, nothing_out, SeesGiven, MayReplace}
use Rattle.sc_seen.specs.Seen.{GoesOn}
use Rattle.sc_collection.proofs.StopLemmas.{stop_at, stop_is, GoesOn-held, given-back}
use Rattle.sc_update.proofs.HoldLemmas.{GoesOn-looked, written-held}
use Rattle.sc_update.proofs.OrderLemmas.{MayReplace-settled, settled-entries, settling}
use Rattle.sc_update.proofs.order.settle_at.Goals as goal

pub settle_write-made-requires : goal.settle_write-made-requires
settle_write-made-requires g c = record {
  sound = c.hold_delivered-bucket.ensures.held.sound;
  written = written-held (g.D.Desk.seen c.args.desk.now) (g.D.Desk.seen c.hold_delivered-bucket.new.desk) c.args.first.lock c.args.first.place c.hold_delivered-bucket.result
      c.hold_delivered-bucket.ensures.quiet c.hold_delivered-bucket.ensures.held.extends c.requires.written;
}

pub give-requires : goal.give-requires
give-requires g c =
    let held : Held = record { number = c.args.first.lock; bucket = c.hold_delivered-bucket.result; by_keeper = false } in
    record {
      is_out = (
        held,
        ap (λ (o : Out). o.bucket) c.hold_delivered-bucket.ensures.held.out_is,
        refl,
        subst (λ (layout : Layout). MayReplace layout held c.settle_write-made.new.bucket) (sym c.hold_delivered-bucket.ensures.layout)
            (MayReplace-settled (g.D.Desk.layout c.args.desk.now) held c.args.first.place c.settle_write-made.result c.settle_write-made.new.bucket
            c.hold_delivered-bucket.ensures.held.is_of c.settle_write-made.ensures.sound refl
            (written-held (g.D.Desk.seen c.args.desk.now) (g.D.Desk.seen c.hold_delivered-bucket.new.desk) c.args.first.lock c.args.first.place c.hold_delivered-bucket.result
            c.hold_delivered-bucket.ensures.quiet c.hold_delivered-bucket.ensures.held.extends c.requires.written)
            c.settle_write-made.ensures.settles),
      );
    }

pub returns-clause-settles : goal.returns-clause-settles
returns-clause-settles g c =
    let layout : Layout = g.D.Desk.layout c.args.desk.now in
    let between : Seen = g.D.Desk.seen c.hold_delivered-bucket.new.desk in
    let new : Seen = g.D.Desk.seen c.give.new.self in
    let held : Held = record { number = c.args.first.lock; bucket = c.hold_delivered-bucket.result; by_keeper = false } in
    let given : Bucket = c.settle_write-made.new.bucket in
    let sees : SeesGiven held given between new = c.give.ensures.seen held (ap (λ (o : Out). o.bucket) c.hold_delivered-bucket.ensures.held.out_is) in
    let added = settled-entries c.args.first.place c.settle_write-made.result held.bucket given c.settle_write-made.ensures.settles in
    let at : stop_at c.args.first.lock held.bucket.journal.entries c.settle_write-made.result ≡ record { lock = c.args.first.lock; place = c.entries-place.result; made = c.settle_write-made.result } =
    stop_is c.args.first.lock c.entries-place.result held.bucket.journal.entries c.settle_write-made.result c.settle_write-made.result c.entries-place.ensures.count refl in
    record {
      second = record { lock = c.args.first.lock; place = c.entries-place.result; made = c.settle_write-made.result };
      keeps = record {
        goes = subst (λ (stop : Stop). GoesOn layout (g.D.Desk.seen c.args.desk.now) new (stop ∷ [])) at
            (GoesOn-looked layout (g.D.Desk.seen c.args.desk.now) between new (stop_at c.args.first.lock held.bucket.journal.entries c.settle_write-made.result)
            c.hold_delivered-bucket.ensures.quiet
            (GoesOn-held layout between new held given c.settle_write-made.result added.0
            c.requires.within c.hold_delivered-bucket.ensures.held.extends added.1 added.2 sees));
        kept = ap (λ (k : Kept). k.stops) c.keep.ensures;
      };
      settling = λ later more. subst (λ (stop : Stop). IsSettling later c.args.first stop) at
          (settling between new held given c.args.first c.settle_write-made.result refl
          (written-held (g.D.Desk.seen c.args.desk.now) between c.args.first.lock c.args.first.place held.bucket
          c.hold_delivered-bucket.ensures.quiet c.hold_delivered-bucket.ensures.held.extends c.requires.written)
          c.settle_write-made.ensures.settles sees later more);
    }

pub returns-clause-leaves : goal.returns-clause-leaves
returns-clause-leaves g c = record {
  layout = c.give.ensures.layout ∙ c.hold_delivered-bucket.ensures.layout;
  rest = record {
    nothing_out = given-back nothing_out (g.D.Desk.out c.hold_delivered-bucket.new.desk) (g.D.Desk.out c.give.new.self) _
        refl c.hold_delivered-bucket.ensures.held.out_is c.give.ensures.out;
    legal = c.give.ensures.legal;
  };
  requests = ap (λ (k : Kept). k.requests) c.keep.ensures;
}
