-- proofs/building/ready_all/Answers.antt
-- The bucket that comes next is ready; of the others nothing changes.
use Rattle.std.proofs.Common.{◌<◌, ◌≤◌, ◌∙◌, arith}
use Rattle.sc_collection.specs.Known.{known_of, OfBuckets}
use Rattle.sc_split.specs.Buckets.{part_in}
use Rattle.sc_split.specs.Stages.{OpenSplit, IsAtStage, leaders_filled, recovering}
use Rattle.sc_split.proofs.OpenLemmas.{board-kept, board-then, stage-same}
use Rattle.sc_split.proofs.LoopLemmas.{one-more, same-after}
use Rattle.sc_split.proofs.EndLemmas.{may-be-ready, stage-ready}
use Rattle.sc_split.proofs.building.ready_all.Goals as goal

pub ready_in-requires-clause-may : goal.ready_in-requires-clause-may
ready_in-requires-clause-may g c =
    let below : c.loop-b.b < (g.D.Desk.layout c.args.desk.now).buckets = omega (arith, c.buckets-b-end.ensures.count) in
    let here : c.loop-b.b ≤ c.loop-b.b = omega arith in
    let zero : 0 ≤ c.loop-b.b = omega arith in
    let split : OpenSplit = c.requires.stage.0 in
    let at : OfBuckets 0 (g.D.Desk.layout c.args.desk.now).buckets (IsAtStage split (leaders_filled split.plan) (known_of (g.D.Desk.seen c.args.desk.now) (g.D.Desk.keeping c.args.desk.now c.args.keepers.now))) = c.requires.stage.1 in (
      split.plan.parent,
      may-be-ready split (known_of (g.D.Desk.seen c.loop-b.desk) (g.D.Desk.keeping c.loop-b.desk c.loop-b.keepers)) c.loop-b.b
          (stage-same split (leaders_filled split.plan) (known_of (g.D.Desk.seen c.args.desk.now) (g.D.Desk.keeping c.args.desk.now c.args.keepers.now)) (known_of (g.D.Desk.seen c.loop-b.desk) (g.D.Desk.keeping c.loop-b.desk c.loop-b.keepers)) c.loop-b.b
          (c.loop-b.invariant.same c.loop-b.b here below) (at c.loop-b.b zero below)),
    )

pub loop-b-preserved : goal.loop-b-preserved
loop-b-preserved g c =
    let below : c.loop-b.b < (g.D.Desk.layout c.args.desk.now).buckets = omega (arith, c.buckets-b-end.ensures.count) in
    let here : c.loop-b.b ≤ c.loop-b.b = omega arith in
    let zero : 0 ≤ c.loop-b.b = omega arith in
    record {
      leaves = record {
        layout = c.ready_in.ensures.leaves.layout ∙ c.loop-b.invariant.leaves.layout;
        rest = c.ready_in.ensures.leaves.rest;
        fits = c.ready_in.ensures.leaves.fits;
        board = board-then (known_of (g.D.Desk.seen c.args.desk.now) (g.D.Desk.keeping c.args.desk.now c.args.keepers.now)) (known_of (g.D.Desk.seen c.loop-b.desk) (g.D.Desk.keeping c.loop-b.desk c.loop-b.keepers))
            (known_of (g.D.Desk.seen c.ready_in.new.desk) (g.D.Desk.keeping c.ready_in.new.desk c.ready_in.new.keepers)) c.loop-b.invariant.leaves.board
            (board-kept c.loop-b.b (known_of (g.D.Desk.seen c.loop-b.desk) (g.D.Desk.keeping c.loop-b.desk c.loop-b.keepers)) (known_of (g.D.Desk.seen c.ready_in.new.desk) (g.D.Desk.keeping c.ready_in.new.desk c.ready_in.new.keepers)) c.ready_in.ensures.leaves.held.others);
      };
      ready = λ split at.
          let was : IsAtStage split (leaders_filled split.plan) (known_of (g.D.Desk.seen c.loop-b.desk) (g.D.Desk.keeping c.loop-b.desk c.loop-b.keepers)) c.loop-b.b = stage-same split (leaders_filled split.plan) (known_of (g.D.Desk.seen c.args.desk.now) (g.D.Desk.keeping c.args.desk.now c.args.keepers.now)) (known_of (g.D.Desk.seen c.loop-b.desk) (g.D.Desk.keeping c.loop-b.desk c.loop-b.keepers)) c.loop-b.b
          (c.loop-b.invariant.same c.loop-b.b here below) (at c.loop-b.b zero below) in
          one-more (IsAtStage split (recovering split.plan)) (known_of (g.D.Desk.seen c.loop-b.desk) (g.D.Desk.keeping c.loop-b.desk c.loop-b.keepers))
          (known_of (g.D.Desk.seen c.ready_in.new.desk) (g.D.Desk.keeping c.ready_in.new.desk c.ready_in.new.keepers)) 0 c.loop-b.b
          (λ k. stage-same split (recovering split.plan) (known_of (g.D.Desk.seen c.loop-b.desk) (g.D.Desk.keeping c.loop-b.desk c.loop-b.keepers))
          (known_of (g.D.Desk.seen c.ready_in.new.desk) (g.D.Desk.keeping c.ready_in.new.desk c.ready_in.new.keepers)) k)
          c.ready_in.ensures.leaves.held.others (c.loop-b.invariant.ready split at)
          (stage-ready split (known_of (g.D.Desk.seen c.loop-b.desk) (g.D.Desk.keeping c.loop-b.desk c.loop-b.keepers)) (known_of (g.D.Desk.seen c.ready_in.new.desk) (g.D.Desk.keeping c.ready_in.new.desk c.ready_in.new.keepers)) c.loop-b.b
          c.ready_in.ensures.leaves.held c.ready_in.ensures.leaves.seen
          (c.ready_in.ensures.ready split.plan.parent (may-be-ready split (known_of (g.D.Desk.seen c.loop-b.desk) (g.D.Desk.keeping c.loop-b.desk c.loop-b.keepers)) c.loop-b.b was))
          (c.ready_in.ensures.underway (part_in split.base c.loop-b.b) split.plan was.opened.underway) was);
      same = same-after (known_of (g.D.Desk.seen c.args.desk.now) (g.D.Desk.keeping c.args.desk.now c.args.keepers.now)) (known_of (g.D.Desk.seen c.loop-b.desk) (g.D.Desk.keeping c.loop-b.desk c.loop-b.keepers))
          (known_of (g.D.Desk.seen c.ready_in.new.desk) (g.D.Desk.keeping c.ready_in.new.desk c.ready_in.new.keepers)) c.loop-b.b (g.D.Desk.layout c.args.desk.now).buckets
          c.loop-b.invariant.same c.ready_in.ensures.leaves.held.others;
    }

pub returns-clause-ready : goal.returns-clause-ready
returns-clause-ready g c split at k low below =
    let within : k < c.loop-b.b = omega (arith, c.buckets-b-end.ensures.count) in
    c.loop-b.invariant.ready split at k low within
