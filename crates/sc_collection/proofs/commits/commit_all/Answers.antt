-- Buckets are committed one after another.
use Rattle.std.proofs.Common.{refl, ◌∙◌, subst, arith}
use Rattle.sc_seen.specs.Seen.{Layout}
use Rattle.sc_seen.specs.Moments.{view_of}
use Rattle.sc_collection.specs.Committing.{CommitsOne}
use Rattle.sc_collection.proofs.CommitLemmas.{CommitsAll-none, CommitsAll-more}
use Rattle.sc_collection.proofs.commits.commit_all.Goals as goal

pub loop-b-init : goal.loop-b-init
loop-b-init g c = record {
  committed = CommitsAll-none (g.D.Desk.layout c.args.desk.now) (view_of (g.D.Desk.seen c.args.desk.now) c.args.trail.now.stops);
  layout = refl;
  rest = record { nothing_out = c.requires.nothing_out; legal = c.buckets-b-end.ensures.legal };
  stops = omega arith;
  requests = refl;
}

pub loop-b-preserved : goal.loop-b-preserved
loop-b-preserved g c =
    let between = view_of (g.D.Desk.seen c.loop-b.desk) c.loop-b.trail.stops in
    let new = view_of (g.D.Desk.seen c.commit_at.new.desk) c.commit_at.new.trail.stops in
    record {
      committed = CommitsAll-more (g.D.Desk.layout c.args.desk.now) c.loop-b.b (view_of (g.D.Desk.seen c.args.desk.now) c.args.trail.now.stops) between new
          c.loop-b.worst c.commit_at.result c.worse-worst.result c.loop-b.invariant.committed
          (subst (λ (layout : Layout). CommitsOne layout between new c.loop-b.b c.commit_at.result) c.loop-b.invariant.layout c.commit_at.ensures.committed)
          c.worse-worst.ensures;
      layout = c.commit_at.ensures.layout ∙ c.loop-b.invariant.layout;
      rest = c.commit_at.ensures.rest;
      stops = omega arith;
      requests = c.commit_at.ensures.requests ∙ c.loop-b.invariant.requests;
    }
