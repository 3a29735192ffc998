-- One hold in which a bucket is committed.
use Rattle.std.proofs.Common.{false, refl, sym, ap, subst}
use Rattle.sc_seen.specs.Seen.{Layout, Seen}
use Rattle.sc_seen.specs.Moments.{view_of}
use Rattle.sc_collection.specs.Kept.{Kept}
use Rattle.sc_collection.specs.Desks.{Held, Out, SeesGiven, MayReplace}
use Rattle.sc_collection.proofs.ReplaceLemmas.{commit_may_replace}
use Rattle.sc_collection.proofs.CommitLemmas.{commits-one}
use Rattle.sc_collection.proofs.StopLemmas.{given-back}
use Rattle.sc_collection.proofs.commits.commit_at.Goals as goal

pub give-requires : goal.give-requires
give-requires g c =
    let held : Held = record { number = c.args.b; bucket = c.hold-bucket.result; by_keeper = false } in
    record {
      is_out = (
        held,
        ap (λ (o : Out). o.bucket) c.hold-bucket.ensures.handed.out,
        refl,
        subst (λ (layout : Layout). MayReplace layout held c.commit-answer.new.self) (sym c.hold-bucket.ensures.handed.layout)
            (commit_may_replace (g.D.Desk.layout c.args.desk.now) held c.commit-answer.new.self c.hold-bucket.ensures.handed.is_of c.commit-answer.ensures.sound refl
            c.commit-answer.result c.commit-answer.ensures.committed c.commit-answer.ensures.refused),
      );
    }

pub returns-clause-committed : goal.returns-clause-committed
returns-clause-committed g c =
    let held : Held = record { number = c.args.b; bucket = c.hold-bucket.result; by_keeper = false } in
    let sees : SeesGiven held c.commit-answer.new.self (g.D.Desk.seen c.args.desk.now) (g.D.Desk.seen c.give.new.self) =
    subst (λ (seen : Seen). SeesGiven held c.commit-answer.new.self seen (g.D.Desk.seen c.give.new.self)) c.hold-bucket.ensures.handed.seen (c.give.ensures.seen held (ap (λ (o : Out). o.bucket) c.hold-bucket.ensures.handed.out)) in
    commits-one (g.D.Desk.layout c.args.desk.now) (view_of (g.D.Desk.seen c.args.desk.now) c.args.trail.now.stops)
    (view_of (g.D.Desk.seen c.give.new.self) c.keep.new.self.stops) held c.commit-answer.new.self c.commit-answer.result c.entries-place.result c.is_ok.result c.err.result
    c.requires.within c.hold-bucket.ensures.handed.is_of c.hold-bucket.ensures.handed.extends c.commit-answer.ensures.committed c.commit-answer.ensures.refused
    c.commit-answer.ensures.full.0 sees c.entries-place.ensures.count c.is_ok.ensures.value c.err.ensures.value (ap (λ (k : Kept). k.stops) c.keep.ensures)

pub returns-clause-rest : goal.returns-clause-rest
returns-clause-rest g c = record {
  nothing_out = given-back (g.D.Desk.out c.args.desk.now) (g.D.Desk.out c.hold-bucket.new.self) (g.D.Desk.out c.give.new.self) _
      c.requires.nothing_out c.hold-bucket.ensures.handed.out c.give.ensures.out;
  legal = c.give.ensures.legal;
}
