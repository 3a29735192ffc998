-- proofs/building/begin_all/Answers.antt
-- The bucket that comes next is opened, or was refused; of the others nothing changes.
use Rattle.std.proofs.Common.{◌<◌, ◌+◌, ◌∙◌, inr, refl, subst, arith}
use Rattle.sc_collection.specs.Known.{known_of}
use Rattle.sc_seen.specs.Seen.{Layout}
use Rattle.sc_split.specs.Stages.{IsUnbegun, building}
use Rattle.sc_split.proofs.OpenLemmas.{board-kept, board-then}
use Rattle.sc_split.proofs.LoopLemmas.{opened-so-far, unbegun-from-here, same-after}
use Rattle.sc_split.proofs.building.begin_all.Goals as goal

pub returns-in_err-begin_one-clause-opened : goal.returns-in_err-begin_one-clause-opened
returns-in_err-begin_one-clause-opened g c =
    let below : c.loop-b.b < (g.D.Desk.layout c.args.desk.now).buckets = omega (arith, c.buckets-b-end.ensures.count) in
    opened-so-far c.args.plan.now (building c.args.plan.now) (known_of (g.D.Desk.seen c.args.desk.now) (g.D.Desk.keeping c.args.desk.now c.args.keepers.now))
    (known_of (g.D.Desk.seen c.loop-b.desk) (g.D.Desk.keeping c.loop-b.desk c.loop-b.keepers))
    (known_of (g.D.Desk.seen c.begin_one.new.desk) (g.D.Desk.keeping c.begin_one.new.desk c.begin_one.new.keepers))
    c.loop-b.b (g.D.Desk.layout c.args.desk.now).buckets c.begin_one.new.begun
    c.loop-b.invariant.opened c.loop-b.invariant.same below c.begin_one.ensures.others c.begin_one.ensures.count c.begin_one.ensures.opened

pub returns-in_err-begin_one-clause-unbegun : goal.returns-in_err-begin_one-clause-unbegun
returns-in_err-begin_one-clause-unbegun g c =
    let below : c.loop-b.b < (g.D.Desk.layout c.args.desk.now).buckets = omega (arith, c.buckets-b-end.ensures.count) in
    unbegun-from-here c.args.plan.now (g.D.Desk.layout c.args.desk.now).first (known_of (g.D.Desk.seen c.args.desk.now) (g.D.Desk.keeping c.args.desk.now c.args.keepers.now))
    (known_of (g.D.Desk.seen c.loop-b.desk) (g.D.Desk.keeping c.loop-b.desk c.loop-b.keepers))
    (known_of (g.D.Desk.seen c.begin_one.new.desk) (g.D.Desk.keeping c.begin_one.new.desk c.begin_one.new.keepers))
    c.loop-b.b (g.D.Desk.layout c.args.desk.now).buckets c.begin_one.new.begun
    c.loop-b.invariant.same below c.begin_one.ensures.others c.begin_one.ensures.count
    (λ here. subst (λ (layout : Layout). IsUnbegun (record { plan = c.args.plan.now; base = (known_of (g.D.Desk.seen c.loop-b.desk) (g.D.Desk.keeping c.loop-b.desk c.loop-b.keepers)) })
    layout.first (known_of (g.D.Desk.seen c.begin_one.new.desk) (g.D.Desk.keeping c.begin_one.new.desk c.begin_one.new.keepers)) c.loop-b.b) c.loop-b.invariant.leaves.layout (c.begin_one.ensures.unbegun here))

pub loop-b-preserved : goal.loop-b-preserved
loop-b-preserved g c =
    let below : c.loop-b.b < (g.D.Desk.layout c.args.desk.now).buckets = omega (arith, c.buckets-b-end.ensures.count) in
    record {
      leaves = record {
        layout = c.begin_one.ensures.leaves.layout ∙ c.loop-b.invariant.leaves.layout;
        rest = c.begin_one.ensures.leaves.rest;
        fits = c.begin_one.ensures.leaves.fits;
        board = board-then (known_of (g.D.Desk.seen c.args.desk.now) (g.D.Desk.keeping c.args.desk.now c.args.keepers.now))
            (known_of (g.D.Desk.seen c.loop-b.desk) (g.D.Desk.keeping c.loop-b.desk c.loop-b.keepers))
            (known_of (g.D.Desk.seen c.begin_one.new.desk) (g.D.Desk.keeping c.begin_one.new.desk c.begin_one.new.keepers))
            c.loop-b.invariant.leaves.board (board-kept c.loop-b.b (known_of (g.D.Desk.seen c.loop-b.desk) (g.D.Desk.keeping c.loop-b.desk c.loop-b.keepers))
            (known_of (g.D.Desk.seen c.begin_one.new.desk) (g.D.Desk.keeping c.begin_one.new.desk c.begin_one.new.keepers)) c.begin_one.ensures.others);
      };
      begun = c.in_ok-begin_one.ensures.all;
      opened = opened-so-far c.args.plan.now (building c.args.plan.now) (known_of (g.D.Desk.seen c.args.desk.now) (g.D.Desk.keeping c.args.desk.now c.args.keepers.now))
          (known_of (g.D.Desk.seen c.loop-b.desk) (g.D.Desk.keeping c.loop-b.desk c.loop-b.keepers))
          (known_of (g.D.Desk.seen c.begin_one.new.desk) (g.D.Desk.keeping c.begin_one.new.desk c.begin_one.new.keepers))
          c.loop-b.b (g.D.Desk.layout c.args.desk.now).buckets (c.loop-b.b + 1)
          c.loop-b.invariant.opened c.loop-b.invariant.same below c.begin_one.ensures.others (inr refl)
          (λ next. c.begin_one.ensures.opened c.in_ok-begin_one.ensures.all);
      same = same-after (known_of (g.D.Desk.seen c.args.desk.now) (g.D.Desk.keeping c.args.desk.now c.args.keepers.now))
          (known_of (g.D.Desk.seen c.loop-b.desk) (g.D.Desk.keeping c.loop-b.desk c.loop-b.keepers))
          (known_of (g.D.Desk.seen c.begin_one.new.desk) (g.D.Desk.keeping c.begin_one.new.desk c.begin_one.new.keepers))
          c.loop-b.b (g.D.Desk.layout c.args.desk.now).buckets c.loop-b.invariant.same c.begin_one.ensures.others;
      stops = c.in_ok-begin_one.ensures.steady ∙ c.loop-b.invariant.stops;
    }
