-- proofs/building/follow_all/Answers.antt
-- In the bucket that comes next all cores are there and filled; of the others nothing changes.
use Rattle.std.proofs.Common.{◌<◌, ◌≤◌, ◌∙◌, arith}
use Rattle.sc_collection.specs.Known.{known_of}
use Rattle.sc_split.specs.Stages.{OpenSplit, IsAtStage, recovering, whole}
use Rattle.sc_split.proofs.OpenLemmas.{board-kept, board-then, stage-same}
use Rattle.sc_split.proofs.LoopLemmas.{one-more, same-after}
use Rattle.sc_split.proofs.EndLemmas.{open-in-all}
use Rattle.sc_split.proofs.building.follow_all.Goals as goal

pub follow_one-requires-clause-stage : goal.follow_one-requires-clause-stage
follow_one-requires-clause-stage g c =
    let below : c.loop-b.b < (g.D.Desk.layout c.args.desk.now).buckets = omega (arith, c.buckets-b-end.ensures.count) in
    let here : c.loop-b.b ≤ c.loop-b.b = omega arith in
    let zero : 0 ≤ c.loop-b.b = omega arith in
    let split : OpenSplit = c.requires.stage.0 in (
      split,
      c.requires.stage.1,
      stage-same split (recovering split.plan) (known_of (g.D.Desk.seen c.args.desk.now) (g.D.Desk.keeping c.args.desk.now c.args.keepers.now)) (known_of (g.D.Desk.seen c.loop-b.desk) (g.D.Desk.keeping c.loop-b.desk c.loop-b.keepers)) c.loop-b.b
          (c.loop-b.invariant.same c.loop-b.b here below) (c.requires.stage.2 c.loop-b.b zero below),
    )

pub returns-in_err-follow_one-clause-opened : goal.returns-in_err-follow_one-clause-opened
returns-in_err-follow_one-clause-opened g c split cores at =
    let below : c.loop-b.b < (g.D.Desk.layout c.args.desk.now).buckets = omega (arith, c.buckets-b-end.ensures.count) in
    let here : c.loop-b.b ≤ c.loop-b.b = omega arith in
    let zero : 0 ≤ c.loop-b.b = omega arith in
    open-in-all split (recovering split.plan) (whole split.plan) (known_of (g.D.Desk.seen c.args.desk.now) (g.D.Desk.keeping c.args.desk.now c.args.keepers.now))
    (known_of (g.D.Desk.seen c.loop-b.desk) (g.D.Desk.keeping c.loop-b.desk c.loop-b.keepers))
    (known_of (g.D.Desk.seen c.follow_one.new.desk) (g.D.Desk.keeping c.follow_one.new.desk c.follow_one.new.keepers)) c.loop-b.b (g.D.Desk.layout c.args.desk.now).buckets at
    (c.loop-b.invariant.whole split cores at) c.loop-b.invariant.same below c.follow_one.ensures.others (c.follow_one.ensures.opened split)

pub loop-b-preserved : goal.loop-b-preserved
loop-b-preserved g c =
    let below : c.loop-b.b < (g.D.Desk.layout c.args.desk.now).buckets = omega (arith, c.buckets-b-end.ensures.count) in
    let here : c.loop-b.b ≤ c.loop-b.b = omega arith in
    let zero : 0 ≤ c.loop-b.b = omega arith in
    record {
      leaves = record {
        layout = c.follow_one.ensures.leaves.layout ∙ c.loop-b.invariant.leaves.layout;
        rest = c.follow_one.ensures.leaves.rest;
        fits = c.follow_one.ensures.leaves.fits;
        board = board-then (known_of (g.D.Desk.seen c.args.desk.now) (g.D.Desk.keeping c.args.desk.now c.args.keepers.now)) (known_of (g.D.Desk.seen c.loop-b.desk) (g.D.Desk.keeping c.loop-b.desk c.loop-b.keepers))
            (known_of (g.D.Desk.seen c.follow_one.new.desk) (g.D.Desk.keeping c.follow_one.new.desk c.follow_one.new.keepers)) c.loop-b.invariant.leaves.board
            (board-kept c.loop-b.b (known_of (g.D.Desk.seen c.loop-b.desk) (g.D.Desk.keeping c.loop-b.desk c.loop-b.keepers)) (known_of (g.D.Desk.seen c.follow_one.new.desk) (g.D.Desk.keeping c.follow_one.new.desk c.follow_one.new.keepers)) c.follow_one.ensures.others);
      };
      whole = λ split cores at.
          one-more (IsAtStage split (whole split.plan)) (known_of (g.D.Desk.seen c.loop-b.desk) (g.D.Desk.keeping c.loop-b.desk c.loop-b.keepers)) (known_of (g.D.Desk.seen c.follow_one.new.desk) (g.D.Desk.keeping c.follow_one.new.desk c.follow_one.new.keepers)) 0 c.loop-b.b
          (λ k. stage-same split (whole split.plan) (known_of (g.D.Desk.seen c.loop-b.desk) (g.D.Desk.keeping c.loop-b.desk c.loop-b.keepers)) (known_of (g.D.Desk.seen c.follow_one.new.desk) (g.D.Desk.keeping c.follow_one.new.desk c.follow_one.new.keepers)) k)
          c.follow_one.ensures.others (c.loop-b.invariant.whole split cores at)
          (c.in_ok-follow_one.ensures.whole split cores (stage-same split (recovering split.plan) (known_of (g.D.Desk.seen c.args.desk.now) (g.D.Desk.keeping c.args.desk.now c.args.keepers.now)) (known_of (g.D.Desk.seen c.loop-b.desk) (g.D.Desk.keeping c.loop-b.desk c.loop-b.keepers)) c.loop-b.b
          (c.loop-b.invariant.same c.loop-b.b here below) (at c.loop-b.b zero below)));
      same = same-after (known_of (g.D.Desk.seen c.args.desk.now) (g.D.Desk.keeping c.args.desk.now c.args.keepers.now)) (known_of (g.D.Desk.seen c.loop-b.desk) (g.D.Desk.keeping c.loop-b.desk c.loop-b.keepers))
          (known_of (g.D.Desk.seen c.follow_one.new.desk) (g.D.Desk.keeping c.follow_one.new.desk c.follow_one.new.keepers)) c.loop-b.b (g.D.Desk.layout c.args.desk.now).buckets
          c.loop-b.invariant.same c.follow_one.ensures.others;
      stops = c.in_ok-follow_one.ensures.steady ∙ c.loop-b.invariant.stops;
    }

pub returns-clause-opened : goal.returns-clause-opened
returns-clause-opened g c split cores at k low below =
    let within : k < c.loop-b.b = omega (arith, c.buckets-b-end.ensures.count) in
    (c.loop-b.invariant.whole split cores at k low within).opened

pub returns-clause-whole : goal.returns-clause-whole
returns-clause-whole g c split cores at k low below =
    let within : k < c.loop-b.b = omega (arith, c.buckets-b-end.ensures.count) in
    c.loop-b.invariant.whole split cores at k low within
