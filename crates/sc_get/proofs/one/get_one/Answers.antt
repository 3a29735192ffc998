-- What is found of an id is its live write at the stop.
use Rattle.std.proofs.Common.{◌≡◌, ◌<◌, ℕ, false, List, [], ◌∷◌, ◌++◌, refl, sym, ap, ◌∙◌, subst}
use Rattle.sc_router.specs.Route.{bucket_of}
use Rattle.sc_seen.specs.Seen.{Layout, Seen}
use Rattle.sc_collection.specs.Resting.{looked_at}
use Rattle.sc_collection.specs.Kept.{Kept}
use Rattle.sc_collection.specs.Desks.{Held, Out, SeesGiven, MayReplace}
use Rattle.sc_collection.proofs.StopLemmas.{stop_at, given-back}
use Rattle.sc_collection.proofs.ReplaceLemmas.{same_may_replace}
use Rattle.sc_get.proofs.GotLemmas.{got}
use Rattle.sc_get.proofs.one.get_one.Goals as goal

pub give-requires : goal.give-requires
give-requires g c =
    let held : Held = record { number = c.bucket_of-b.result; bucket = c.hold-bucket.result; by_keeper = false } in
    record {
      is_out = (
        held,
        ap (λ (o : Out). o.bucket) c.hold-bucket.ensures.handed.out,
        refl,
        subst (λ (layout : Layout). MayReplace layout held c.hold-bucket.result) (sym c.hold-bucket.ensures.handed.layout)
            (same_may_replace (g.D.Desk.layout c.args.desk.now) held c.hold-bucket.result c.hold-bucket.ensures.handed.is_of c.hold-bucket.ensures.handed.sound refl refl),
      );
    }

pub returns-clause-leaves : goal.returns-clause-leaves
returns-clause-leaves g c = record {
  layout = c.give.ensures.layout ∙ c.hold-bucket.ensures.handed.layout;
  rest = record {
    nothing_out = given-back (g.D.Desk.out c.args.desk.now) (g.D.Desk.out c.hold-bucket.new.self) (g.D.Desk.out c.give.new.self) _
        c.requires.nothing_out c.hold-bucket.ensures.handed.out c.give.ensures.out;
    legal = c.give.ensures.legal;
  };
  requests = ap (λ (k : Kept). k.requests) c.keep.ensures;
}

pub returns-clause-got : goal.returns-clause-got
returns-clause-got g c =
    let layout = g.D.Desk.layout c.args.desk.now in
    let old = g.D.Desk.seen c.args.desk.now in
    let new = g.D.Desk.seen c.give.new.self in
    let bucket = c.hold-bucket.result in
    let number = c.bucket_of-b.result in
    let stops : c.keep.new.self.stops ≡ c.args.trail.now.stops ++ stop_at number bucket.journal.entries false ∷ [] =
    ap (λ (k : Kept). k.stops) c.keep.ensures
    ∙ ap (λ n. c.args.trail.now.stops ++ record { lock = number; place = n; made = false } ∷ []) c.entries.ensures.count in
    let here : number ≡ bucket_of c.args.id.now layout.buckets =
    c.bucket_of-b.ensures.bucket ∙ ap (λ (id : List ℕ). bucket_of id c.buckets.result) c.as_str.ensures.value
    ∙ ap (bucket_of c.args.id.now) c.buckets.ensures.count in
    let below : number < layout.buckets = subst (λ n. number < n) c.buckets.ensures.count c.bucket_of-b.ensures.below in
    let sees : SeesGiven (record { number = number; bucket = bucket; by_keeper = false }) bucket old new =
    subst (λ (s : Seen). SeesGiven (record { number = number; bucket = bucket; by_keeper = false }) bucket s new) c.hold-bucket.ensures.handed.seen
    (c.give.ensures.seen (record { number = number; bucket = bucket; by_keeper = false }) (ap (λ (o : Out). o.bucket) c.hold-bucket.ensures.handed.out)) in
    got layout (looked_at g.D.Desk c.args.desk.now c.args.trail.now) (looked_at g.D.Desk c.give.new.self c.keep.new.self) bucket number c.args.id.now c.share_live-found.result
    here below c.hold-bucket.ensures.handed.extends sees stops (rw c.read.ensures at c.share_live-found.ensures)
