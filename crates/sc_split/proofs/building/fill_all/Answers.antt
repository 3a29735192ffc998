-- proofs/building/fill_all/Answers.antt
-- The cores of the bucket that comes next are filled; of the others nothing changes.
use Rattle.std.proofs.Common.{◌<◌, ◌≤◌, ◌∙◌, arith}
use Rattle.sc_collection.specs.Known.{known_of}
use Rattle.sc_split.specs.Buckets.{part_in}
use Rattle.sc_split.specs.Stages.{IsAtStage, filled}
use Rattle.sc_split.proofs.OpenLemmas.{board-kept, board-then, stage-same, open-held}
use Rattle.sc_split.proofs.LoopLemmas.{one-more, same-after}
use Rattle.sc_split.proofs.EndLemmas.{stage-filled, open-in-all}
use Rattle.sc_split.proofs.building.fill_all.Goals as goal

pub returns-then-not-fill-clause-opened : goal.returns-then-not-fill-clause-opened
returns-then-not-fill-clause-opened g c split stage to_fill at =
    let below : c.loop-b.b < (g.D.Desk.layout c.args.desk.now).buckets = omega (arith, c.buckets-b-end.ensures.count) in
    let here : c.loop-b.b ≤ c.loop-b.b = omega arith in
    let zero : 0 ≤ c.loop-b.b = omega arith in
    open-in-all split stage (filled stage) (known_of (g.D.Desk.seen c.args.desk.now) (g.D.Desk.keeping c.args.desk.now c.args.keepers.now))
    (known_of (g.D.Desk.seen c.loop-b.desk) (g.D.Desk.keeping c.loop-b.desk c.loop-b.keepers))
    (known_of (g.D.Desk.seen c.fill.new.desk) (g.D.Desk.keeping c.fill.new.desk c.fill.new.keepers)) c.loop-b.b (g.D.Desk.layout c.args.desk.now).buckets at
    (c.loop-b.invariant.filled split stage to_fill at) c.loop-b.invariant.same below c.fill.ensures.leaves.held.others
    (λ was. open-held split (known_of (g.D.Desk.seen c.loop-b.desk) (g.D.Desk.keeping c.loop-b.desk c.loop-b.keepers)) (known_of (g.D.Desk.seen c.fill.new.desk) (g.D.Desk.keeping c.fill.new.desk c.fill.new.keepers)) c.loop-b.b
    c.fill.ensures.leaves.held c.fill.ensures.leaves.seen (c.fill.ensures.underway (part_in split.base c.loop-b.b) split.plan was.underway) was)

pub loop-b-preserved : goal.loop-b-preserved
loop-b-preserved g c =
    let below : c.loop-b.b < (g.D.Desk.layout c.args.desk.now).buckets = omega (arith, c.buckets-b-end.ensures.count) in
    let here : c.loop-b.b ≤ c.loop-b.b = omega arith in
    let zero : 0 ≤ c.loop-b.b = omega arith in
    record {
      leaves = record {
        layout = c.fill.ensures.leaves.layout ∙ c.loop-b.invariant.leaves.layout;
        rest = c.fill.ensures.leaves.rest;
        fits = c.fill.ensures.leaves.fits;
        board = board-then (known_of (g.D.Desk.seen c.args.desk.now) (g.D.Desk.keeping c.args.desk.now c.args.keepers.now)) (known_of (g.D.Desk.seen c.loop-b.desk) (g.D.Desk.keeping c.loop-b.desk c.loop-b.keepers))
            (known_of (g.D.Desk.seen c.fill.new.desk) (g.D.Desk.keeping c.fill.new.desk c.fill.new.keepers)) c.loop-b.invariant.leaves.board
            (board-kept c.loop-b.b (known_of (g.D.Desk.seen c.loop-b.desk) (g.D.Desk.keeping c.loop-b.desk c.loop-b.keepers)) (known_of (g.D.Desk.seen c.fill.new.desk) (g.D.Desk.keeping c.fill.new.desk c.fill.new.keepers)) c.fill.ensures.leaves.held.others);
      };
      filled = λ split stage to_fill at.
          let was : IsAtStage split stage (known_of (g.D.Desk.seen c.loop-b.desk) (g.D.Desk.keeping c.loop-b.desk c.loop-b.keepers)) c.loop-b.b = stage-same split stage (known_of (g.D.Desk.seen c.args.desk.now) (g.D.Desk.keeping c.args.desk.now c.args.keepers.now)) (known_of (g.D.Desk.seen c.loop-b.desk) (g.D.Desk.keeping c.loop-b.desk c.loop-b.keepers)) c.loop-b.b
          (c.loop-b.invariant.same c.loop-b.b here below) (at c.loop-b.b zero below) in
          one-more (IsAtStage split (filled stage)) (known_of (g.D.Desk.seen c.loop-b.desk) (g.D.Desk.keeping c.loop-b.desk c.loop-b.keepers))
          (known_of (g.D.Desk.seen c.fill.new.desk) (g.D.Desk.keeping c.fill.new.desk c.fill.new.keepers)) 0 c.loop-b.b
          (λ k. stage-same split (filled stage) (known_of (g.D.Desk.seen c.loop-b.desk) (g.D.Desk.keeping c.loop-b.desk c.loop-b.keepers)) (known_of (g.D.Desk.seen c.fill.new.desk) (g.D.Desk.keeping c.fill.new.desk c.fill.new.keepers)) k)
          c.fill.ensures.leaves.held.others (c.loop-b.invariant.filled split stage to_fill at)
          (stage-filled split stage (known_of (g.D.Desk.seen c.loop-b.desk) (g.D.Desk.keeping c.loop-b.desk c.loop-b.keepers)) (known_of (g.D.Desk.seen c.fill.new.desk) (g.D.Desk.keeping c.fill.new.desk c.fill.new.keepers)) c.loop-b.b
          c.fill.ensures.leaves.held c.fill.ensures.leaves.seen c.fill.ensures.seats
          (c.fill.ensures.underway (part_in split.base c.loop-b.b) split.plan was.opened.underway)
          (c.fill.ensures.filled c.if-not-fill.false) was);
      same = same-after (known_of (g.D.Desk.seen c.args.desk.now) (g.D.Desk.keeping c.args.desk.now c.args.keepers.now)) (known_of (g.D.Desk.seen c.loop-b.desk) (g.D.Desk.keeping c.loop-b.desk c.loop-b.keepers))
          (known_of (g.D.Desk.seen c.fill.new.desk) (g.D.Desk.keeping c.fill.new.desk c.fill.new.keepers)) c.loop-b.b (g.D.Desk.layout c.args.desk.now).buckets
          c.loop-b.invariant.same c.fill.ensures.leaves.held.others;
      stops = c.fill.ensures.pace.steady c.if-not-fill.false ∙ c.loop-b.invariant.stops;
    }

pub returns-clause-opened : goal.returns-clause-opened
returns-clause-opened g c split stage to_fill at k low below =
    let within : k < c.loop-b.b = omega (arith, c.buckets-b-end.ensures.count) in
    (c.loop-b.invariant.filled split stage to_fill at k low within).opened

pub returns-clause-filled : goal.returns-clause-filled
returns-clause-filled g c split stage to_fill at k low below =
    let within : k < c.loop-b.b = omega (arith, c.buckets-b-end.ensures.count) in
    c.loop-b.invariant.filled split stage to_fill at k low within
