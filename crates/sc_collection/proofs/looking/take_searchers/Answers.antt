-- One hold of a bucket is one stop, and its searchers are taken.
use Rattle.std.proofs.Common.{◌≡◌, false, length, [], ◌∷◌, ◌++◌, refl, sym, ap, ◌∙◌, subst}
use Rattle.std.proofs.lemmas.List.{append-nil}
use mathlib.Core.List.{IsPrefix}
use Rattle.sc_seen.specs.Seen.{Layout, Seen}
use Rattle.sc_seen.proofs.ExtendsLemmas.{IsPrefix-self}
use Rattle.sc_collection.specs.Kept.{Kept}
use Rattle.sc_collection.specs.Desks.{Held, Out, SeesGiven, MayReplace}
use Rattle.sc_collection.proofs.StopLemmas.{GoesOn-held, given-back}
use Rattle.sc_collection.proofs.ReplaceLemmas.{same_may_replace}
use Rattle.sc_collection.proofs.LookLemmas.{asked}
use Rattle.sc_collection.proofs.looking.take_searchers.Goals as goal

pub give-requires : goal.give-requires
give-requires g c =
    let held : Held = record { number = c.args.b; bucket = c.hold-bucket.result; by_keeper = false } in
    record {
      is_out = (
        held,
        ap (λ (o : Out). o.bucket) c.hold-bucket.ensures.handed.out,
        refl,
        subst (λ (layout : Layout). MayReplace layout held c.hold-bucket.result) (sym c.hold-bucket.ensures.handed.layout)
            (same_may_replace (g.D.Desk.layout c.args.desk.now) held c.hold-bucket.result c.hold-bucket.ensures.handed.is_of c.hold-bucket.ensures.handed.sound refl refl),
      );
    }

pub returns-clause-rest : goal.returns-clause-rest
returns-clause-rest g c = record {
  nothing_out = given-back (g.D.Desk.out c.args.desk.now) (g.D.Desk.out c.hold-bucket.new.self) (g.D.Desk.out c.give.new.self) _
      c.requires.nothing_out c.hold-bucket.ensures.handed.out c.give.ensures.out;
  legal = c.give.ensures.legal;
}

pub returns-clause-looks : goal.returns-clause-looks
returns-clause-looks g c =
    let layout = g.D.Desk.layout c.args.desk.now in
    let old = g.D.Desk.seen c.args.desk.now in
    let new = g.D.Desk.seen c.give.new.self in
    let bucket = c.hold-bucket.result in
    let journal = bucket.journal.entries in
    let held : Held = record { number = c.args.b; bucket = bucket; by_keeper = false } in
    let sees : SeesGiven held bucket old new =
    subst (λ (s : Seen). SeesGiven held bucket s new) c.hold-bucket.ensures.handed.seen (c.give.ensures.seen held (ap (λ (o : Out). o.bucket) c.hold-bucket.ensures.handed.out)) in
    let stops : c.keep.new.self.stops ≡ c.args.trail.now.stops ++ record { lock = c.args.b; place = length journal; made = false } ∷ [] =
    ap (λ (k : Kept). k.stops) c.keep.ensures
    ∙ ap (λ n. c.args.trail.now.stops ++ record { lock = c.args.b; place = n; made = false } ∷ []) c.entries-place.ensures.count in
    record {
      journal = journal;
      begins = subst (IsPrefix journal) (sym sees.journal) (IsPrefix-self journal);
      keeps = record {
        goes = GoesOn-held layout old new held bucket false [] c.requires.within c.hold-bucket.ensures.handed.extends (sym (append-nil journal)) refl sees;
        kept = stops;
      };
      is_taken = asked layout c.args.b bucket c.args.route.now c.args.searchers.now.items c.searchers-taken.new.into.items c.searchers-taken.result
          c.hold-bucket.ensures.handed.sound c.hold-bucket.ensures.handed.is_of c.searchers-taken.ensures.all;
    }
