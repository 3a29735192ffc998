-- proofs/ending/switch_all/Answers.antt
-- The bucket that comes next is switched; of the others nothing changes.
use Rattle.std.proofs.Common.{◌<◌, ◌≤◌, ◌∙◌, arith}
use Rattle.sc_seen.proofs.ExtendsLemmas.{IsPrefix-then}
use Rattle.sc_collection.specs.Known.{known_of}
use Rattle.sc_split.specs.Stages.{OpenSplit, IsAtStage, IsDoneIn, whole}
use Rattle.sc_split.proofs.OpenLemmas.{board-kept, board-then, stage-same, went-on}
use Rattle.sc_split.proofs.LoopLemmas.{one-more, same-after}
use Rattle.sc_split.proofs.SwitchLemmas.{may-switch, done-held, done-same}
use Rattle.sc_split.proofs.ending.switch_all.Goals as goal

pub switch_in-requires-clause-may : goal.switch_in-requires-clause-may
switch_in-requires-clause-may g c =
    let below : c.loop-b.b < (g.D.Desk.layout c.args.desk.now).buckets = omega (arith, c.buckets-b-end.ensures.count) in
    let here : c.loop-b.b ≤ c.loop-b.b = omega arith in
    let zero : 0 ≤ c.loop-b.b = omega arith in
    let split : OpenSplit = c.requires.stage.0 in (
      split.plan.parent,
      may-switch split (known_of (g.D.Desk.seen c.loop-b.desk) (g.D.Desk.keeping c.loop-b.desk c.loop-b.keepers)) c.loop-b.b
          (stage-same split (whole split.plan) (known_of (g.D.Desk.seen c.args.desk.now) (g.D.Desk.keeping c.args.desk.now c.args.keepers.now)) (known_of (g.D.Desk.seen c.loop-b.desk) (g.D.Desk.keeping c.loop-b.desk c.loop-b.keepers)) c.loop-b.b
          (c.loop-b.invariant.same c.loop-b.b here below) (c.requires.stage.1 c.loop-b.b zero below)),
    )

pub loop-b-preserved : goal.loop-b-preserved
loop-b-preserved g c =
    let below : c.loop-b.b < (g.D.Desk.layout c.args.desk.now).buckets = omega (arith, c.buckets-b-end.ensures.count) in
    let here : c.loop-b.b ≤ c.loop-b.b = omega arith in
    let zero : 0 ≤ c.loop-b.b = omega arith in
    let first : OpenSplit = c.requires.stage.0 in
    let ready : IsAtStage first (whole first.plan) (known_of (g.D.Desk.seen c.loop-b.desk) (g.D.Desk.keeping c.loop-b.desk c.loop-b.keepers)) c.loop-b.b = stage-same first (whole first.plan) (known_of (g.D.Desk.seen c.args.desk.now) (g.D.Desk.keeping c.args.desk.now c.args.keepers.now)) (known_of (g.D.Desk.seen c.loop-b.desk) (g.D.Desk.keeping c.loop-b.desk c.loop-b.keepers)) c.loop-b.b
    (c.loop-b.invariant.same c.loop-b.b here below) (c.requires.stage.1 c.loop-b.b zero below) in
    let held = c.switch_in.ensures.held first.plan.parent (may-switch first (known_of (g.D.Desk.seen c.loop-b.desk) (g.D.Desk.keeping c.loop-b.desk c.loop-b.keepers)) c.loop-b.b ready) in
    record {
      leaves = record {
        layout = c.switch_in.ensures.leaves.layout ∙ c.loop-b.invariant.leaves.layout;
        rest = c.switch_in.ensures.leaves.rest;
        fits = c.switch_in.ensures.leaves.fits;
        board = board-then (known_of (g.D.Desk.seen c.args.desk.now) (g.D.Desk.keeping c.args.desk.now c.args.keepers.now)) (known_of (g.D.Desk.seen c.loop-b.desk) (g.D.Desk.keeping c.loop-b.desk c.loop-b.keepers))
            (known_of (g.D.Desk.seen c.switch_in.new.desk) (g.D.Desk.keeping c.switch_in.new.desk c.switch_in.new.keepers)) c.loop-b.invariant.leaves.board
            (board-kept c.loop-b.b (known_of (g.D.Desk.seen c.loop-b.desk) (g.D.Desk.keeping c.loop-b.desk c.loop-b.keepers)) (known_of (g.D.Desk.seen c.switch_in.new.desk) (g.D.Desk.keeping c.switch_in.new.desk c.switch_in.new.keepers)) held.others);
      };
      went_on = λ lock. IsPrefix-then ((g.D.Desk.seen c.args.desk.now).journals lock) ((g.D.Desk.seen c.loop-b.desk).journals lock) ((g.D.Desk.seen c.switch_in.new.desk).journals lock)
          (c.loop-b.invariant.went_on lock)
          (went-on c.loop-b.b (known_of (g.D.Desk.seen c.loop-b.desk) (g.D.Desk.keeping c.loop-b.desk c.loop-b.keepers)) (known_of (g.D.Desk.seen c.switch_in.new.desk) (g.D.Desk.keeping c.switch_in.new.desk c.switch_in.new.keepers)) _ held lock);
      switched = λ split at.
          let was : IsAtStage split (whole split.plan) (known_of (g.D.Desk.seen c.loop-b.desk) (g.D.Desk.keeping c.loop-b.desk c.loop-b.keepers)) c.loop-b.b = stage-same split (whole split.plan) (known_of (g.D.Desk.seen c.args.desk.now) (g.D.Desk.keeping c.args.desk.now c.args.keepers.now)) (known_of (g.D.Desk.seen c.loop-b.desk) (g.D.Desk.keeping c.loop-b.desk c.loop-b.keepers)) c.loop-b.b
          (c.loop-b.invariant.same c.loop-b.b here below) (at c.loop-b.b zero below) in
          let may = may-switch split (known_of (g.D.Desk.seen c.loop-b.desk) (g.D.Desk.keeping c.loop-b.desk c.loop-b.keepers)) c.loop-b.b was in
          one-more (IsDoneIn split) (known_of (g.D.Desk.seen c.loop-b.desk) (g.D.Desk.keeping c.loop-b.desk c.loop-b.keepers)) (known_of (g.D.Desk.seen c.switch_in.new.desk) (g.D.Desk.keeping c.switch_in.new.desk c.switch_in.new.keepers)) 0 c.loop-b.b
          (λ k. done-same split (known_of (g.D.Desk.seen c.loop-b.desk) (g.D.Desk.keeping c.loop-b.desk c.loop-b.keepers)) (known_of (g.D.Desk.seen c.switch_in.new.desk) (g.D.Desk.keeping c.switch_in.new.desk c.switch_in.new.keepers)) k)
          held.others (c.loop-b.invariant.switched split at)
          (done-held split (known_of (g.D.Desk.seen c.loop-b.desk) (g.D.Desk.keeping c.loop-b.desk c.loop-b.keepers)) (known_of (g.D.Desk.seen c.switch_in.new.desk) (g.D.Desk.keeping c.switch_in.new.desk c.switch_in.new.keepers)) c.loop-b.b
          (c.switch_in.ensures.held split.plan.parent may) c.switch_in.ensures.seen
          (c.switch_in.ensures.switched split.plan.parent may) was);
      same = same-after (known_of (g.D.Desk.seen c.args.desk.now) (g.D.Desk.keeping c.args.desk.now c.args.keepers.now)) (known_of (g.D.Desk.seen c.loop-b.desk) (g.D.Desk.keeping c.loop-b.desk c.loop-b.keepers))
          (known_of (g.D.Desk.seen c.switch_in.new.desk) (g.D.Desk.keeping c.switch_in.new.desk c.switch_in.new.keepers)) c.loop-b.b (g.D.Desk.layout c.args.desk.now).buckets
          c.loop-b.invariant.same held.others;
    }

pub returns-clause-switched : goal.returns-clause-switched
returns-clause-switched g c split at k low below =
    let within : k < c.loop-b.b = omega (arith, c.buckets-b-end.ensures.count) in
    c.loop-b.invariant.switched split at k low within
