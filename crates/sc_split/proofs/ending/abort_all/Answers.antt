-- proofs/ending/abort_all/Answers.antt
-- The split is given up in the bucket that comes next; of the others nothing changes.
use Rattle.std.proofs.Common.{◌<◌, ◌≤◌, ◌∙◌, arith}
use Rattle.sc_seen.proofs.ExtendsLemmas.{IsPrefix-then}
use Rattle.sc_collection.specs.Known.{known_of, OfBuckets}
use Rattle.sc_split.specs.Buckets.{part_in}
use Rattle.sc_split.specs.Stages.{OpenSplit, IsOpenIn, IsFailedIn}
use Rattle.sc_split.proofs.OpenLemmas.{board-kept, board-then, open-same, went-on}
use Rattle.sc_split.proofs.LoopLemmas.{one-more, same-after}
use Rattle.sc_split.proofs.EndLemmas.{may-abort, failed-held, failed-same}
use Rattle.sc_split.proofs.ending.abort_all.Goals as goal

pub abort_in-requires-clause-may : goal.abort_in-requires-clause-may
abort_in-requires-clause-may g c =
    let below : c.loop-b.b < c.args.begun = omega arith in
    let here : c.loop-b.b ≤ c.loop-b.b = omega arith in
    let zero : 0 ≤ c.loop-b.b = omega arith in
    let within : c.loop-b.b < (g.D.Desk.layout c.args.desk.now).buckets = omega (arith, c.requires.count) in
    let split : OpenSplit = c.requires.opened.0 in
    let at : OfBuckets 0 c.args.begun (IsOpenIn split (known_of (g.D.Desk.seen c.args.desk.now) (g.D.Desk.keeping c.args.desk.now c.args.keepers.now))) = c.requires.opened.1 in (
      split.plan.parent,
      may-abort split (known_of (g.D.Desk.seen c.loop-b.desk) (g.D.Desk.keeping c.loop-b.desk c.loop-b.keepers)) c.loop-b.b (open-same split (known_of (g.D.Desk.seen c.args.desk.now) (g.D.Desk.keeping c.args.desk.now c.args.keepers.now)) (known_of (g.D.Desk.seen c.loop-b.desk) (g.D.Desk.keeping c.loop-b.desk c.loop-b.keepers)) c.loop-b.b
          (c.loop-b.invariant.same c.loop-b.b here within) (at c.loop-b.b zero below)),
    )

pub loop-b-preserved : goal.loop-b-preserved
loop-b-preserved g c =
    let below : c.loop-b.b < c.args.begun = omega arith in
    let here : c.loop-b.b ≤ c.loop-b.b = omega arith in
    let zero : 0 ≤ c.loop-b.b = omega arith in
    let within : c.loop-b.b < (g.D.Desk.layout c.args.desk.now).buckets = omega (arith, c.requires.count) in
    let first : OpenSplit = c.requires.opened.0 in
    let opened : IsOpenIn first (known_of (g.D.Desk.seen c.loop-b.desk) (g.D.Desk.keeping c.loop-b.desk c.loop-b.keepers)) c.loop-b.b = open-same first (known_of (g.D.Desk.seen c.args.desk.now) (g.D.Desk.keeping c.args.desk.now c.args.keepers.now)) (known_of (g.D.Desk.seen c.loop-b.desk) (g.D.Desk.keeping c.loop-b.desk c.loop-b.keepers)) c.loop-b.b
    (c.loop-b.invariant.same c.loop-b.b here within) (c.requires.opened.1 c.loop-b.b zero below) in
    record {
      leaves = record {
        layout = c.abort_in.ensures.leaves.layout ∙ c.loop-b.invariant.leaves.layout;
        rest = c.abort_in.ensures.leaves.rest;
        fits = c.abort_in.ensures.leaves.fits;
        board = board-then (known_of (g.D.Desk.seen c.args.desk.now) (g.D.Desk.keeping c.args.desk.now c.args.keepers.now)) (known_of (g.D.Desk.seen c.loop-b.desk) (g.D.Desk.keeping c.loop-b.desk c.loop-b.keepers))
            (known_of (g.D.Desk.seen c.abort_in.new.desk) (g.D.Desk.keeping c.abort_in.new.desk c.abort_in.new.keepers)) c.loop-b.invariant.leaves.board
            (board-kept c.loop-b.b (known_of (g.D.Desk.seen c.loop-b.desk) (g.D.Desk.keeping c.loop-b.desk c.loop-b.keepers)) (known_of (g.D.Desk.seen c.abort_in.new.desk) (g.D.Desk.keeping c.abort_in.new.desk c.abort_in.new.keepers)) (c.abort_in.ensures.held first.plan.parent (may-abort first (known_of (g.D.Desk.seen c.loop-b.desk) (g.D.Desk.keeping c.loop-b.desk c.loop-b.keepers)) c.loop-b.b opened)).others);
      };
      went_on = λ lock. IsPrefix-then ((g.D.Desk.seen c.args.desk.now).journals lock) ((g.D.Desk.seen c.loop-b.desk).journals lock) ((g.D.Desk.seen c.abort_in.new.desk).journals lock)
          (c.loop-b.invariant.went_on lock)
          (went-on c.loop-b.b (known_of (g.D.Desk.seen c.loop-b.desk) (g.D.Desk.keeping c.loop-b.desk c.loop-b.keepers)) (known_of (g.D.Desk.seen c.abort_in.new.desk) (g.D.Desk.keeping c.abort_in.new.desk c.abort_in.new.keepers)) _
          (c.abort_in.ensures.held first.plan.parent (may-abort first (known_of (g.D.Desk.seen c.loop-b.desk) (g.D.Desk.keeping c.loop-b.desk c.loop-b.keepers)) c.loop-b.b opened)) lock);
      failed = λ split at.
          let was : IsOpenIn split (known_of (g.D.Desk.seen c.loop-b.desk) (g.D.Desk.keeping c.loop-b.desk c.loop-b.keepers)) c.loop-b.b = open-same split (known_of (g.D.Desk.seen c.args.desk.now) (g.D.Desk.keeping c.args.desk.now c.args.keepers.now)) (known_of (g.D.Desk.seen c.loop-b.desk) (g.D.Desk.keeping c.loop-b.desk c.loop-b.keepers)) c.loop-b.b
          (c.loop-b.invariant.same c.loop-b.b here within) (at c.loop-b.b zero below) in
          one-more (IsFailedIn split) (known_of (g.D.Desk.seen c.loop-b.desk) (g.D.Desk.keeping c.loop-b.desk c.loop-b.keepers)) (known_of (g.D.Desk.seen c.abort_in.new.desk) (g.D.Desk.keeping c.abort_in.new.desk c.abort_in.new.keepers)) 0 c.loop-b.b
          (λ k. failed-same split (known_of (g.D.Desk.seen c.loop-b.desk) (g.D.Desk.keeping c.loop-b.desk c.loop-b.keepers)) (known_of (g.D.Desk.seen c.abort_in.new.desk) (g.D.Desk.keeping c.abort_in.new.desk c.abort_in.new.keepers)) k)
          (c.abort_in.ensures.held first.plan.parent (may-abort first (known_of (g.D.Desk.seen c.loop-b.desk) (g.D.Desk.keeping c.loop-b.desk c.loop-b.keepers)) c.loop-b.b opened)).others (c.loop-b.invariant.failed split at)
          (failed-held split (known_of (g.D.Desk.seen c.loop-b.desk) (g.D.Desk.keeping c.loop-b.desk c.loop-b.keepers)) (known_of (g.D.Desk.seen c.abort_in.new.desk) (g.D.Desk.keeping c.abort_in.new.desk c.abort_in.new.keepers)) c.loop-b.b
          (c.abort_in.ensures.held split.plan.parent (may-abort split (known_of (g.D.Desk.seen c.loop-b.desk) (g.D.Desk.keeping c.loop-b.desk c.loop-b.keepers)) c.loop-b.b was)) c.abort_in.ensures.seen
          (c.abort_in.ensures.given_up (part_in split.base c.loop-b.b) split.plan was.underway) was);
      same = same-after (known_of (g.D.Desk.seen c.args.desk.now) (g.D.Desk.keeping c.args.desk.now c.args.keepers.now)) (known_of (g.D.Desk.seen c.loop-b.desk) (g.D.Desk.keeping c.loop-b.desk c.loop-b.keepers))
          (known_of (g.D.Desk.seen c.abort_in.new.desk) (g.D.Desk.keeping c.abort_in.new.desk c.abort_in.new.keepers)) c.loop-b.b (g.D.Desk.layout c.args.desk.now).buckets
          c.loop-b.invariant.same (c.abort_in.ensures.held first.plan.parent (may-abort first (known_of (g.D.Desk.seen c.loop-b.desk) (g.D.Desk.keeping c.loop-b.desk c.loop-b.keepers)) c.loop-b.b opened)).others;
    }
