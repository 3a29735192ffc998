-- The core that comes next joins; once all have, they are filled.
use Rattle.std.proofs.Common.{◌++◌, ◌∷◌, ◌∙◌, [], List, ap, sym, subst, take}
use Rattle.std.proofs.lemmas.List.{take_all, take_more}
use Rattle.sc_record.specs.declared.slice.CoreId.{CoreId}
use Rattle.sc_collection.specs.Known.{known_of}
use Rattle.sc_split.specs.Buckets.{part_in, IsToFill}
use Rattle.sc_split.specs.Stages.{OpenSplit, IsAtStage}
use Rattle.sc_split.proofs.HeldLemmas.{others-then}
use Rattle.sc_split.proofs.OpenLemmas.{open-held}
use Rattle.sc_split.proofs.EndLemmas.{stage-filled}
use Rattle.sc_split.proofs.FurtherLemmas.{joining, may-join, stage-grown, whole-filled}
use Rattle.sc_split.proofs.building.follow_one.Goals as goal

pub join_one-requires-clause-may : goal.join_one-requires-clause-may
join_one-requires-clause-may g c =
    let split : OpenSplit = c.requires.stage.0 in
    may-join split c.args.cores.now (known_of (g.D.Desk.seen c.loop-core.desk) (g.D.Desk.keeping c.loop-core.desk c.loop-core.keepers)) c.args.b c.loop-core.core-index c.core-item.result c.requires.stage.1
    c.loop-core-test.true c.core-item.is (c.loop-core.invariant.joined split c.requires.stage.1 c.requires.stage.2)

pub returns-in_err-join_one-clause-opened : goal.returns-in_err-join_one-clause-opened
returns-in_err-join_one-clause-opened g c split at =
    let was = c.loop-core.invariant.opened split at in
    open-held split (known_of (g.D.Desk.seen c.loop-core.desk) (g.D.Desk.keeping c.loop-core.desk c.loop-core.keepers)) (known_of (g.D.Desk.seen c.join_one.new.desk) (g.D.Desk.keeping c.join_one.new.desk c.join_one.new.keepers)) c.args.b
    c.join_one.ensures.leaves.held c.join_one.ensures.leaves.seen (c.join_one.ensures.underway (part_in split.base c.args.b) split.plan was.underway) was

pub loop-core-preserved : goal.loop-core-preserved
loop-core-preserved g c = record {
  leaves = record {
    layout = c.join_one.ensures.leaves.layout ∙ c.loop-core.invariant.leaves.layout;
    rest = c.join_one.ensures.leaves.rest;
    fits = c.join_one.ensures.leaves.fits;
  };
  others = others-then c.args.b (known_of (g.D.Desk.seen c.args.desk.now) (g.D.Desk.keeping c.args.desk.now c.args.keepers.now)) (known_of (g.D.Desk.seen c.loop-core.desk) (g.D.Desk.keeping c.loop-core.desk c.loop-core.keepers)) (known_of (g.D.Desk.seen c.join_one.new.desk) (g.D.Desk.keeping c.join_one.new.desk c.join_one.new.keepers)) c.loop-core.invariant.others c.join_one.ensures.leaves.held.others;
  opened = λ split at.
      let was = c.loop-core.invariant.opened split at in
      open-held split (known_of (g.D.Desk.seen c.loop-core.desk) (g.D.Desk.keeping c.loop-core.desk c.loop-core.keepers)) (known_of (g.D.Desk.seen c.join_one.new.desk) (g.D.Desk.keeping c.join_one.new.desk c.join_one.new.keepers)) c.args.b
      c.join_one.ensures.leaves.held c.join_one.ensures.leaves.seen (c.join_one.ensures.underway (part_in split.base c.args.b) split.plan was.underway) was;
  joined = λ split cores at.
      let was = c.loop-core.invariant.joined split cores at in
      subst (λ (names : List CoreId). IsAtStage split (joining split.plan names) (known_of (g.D.Desk.seen c.join_one.new.desk) (g.D.Desk.keeping c.join_one.new.desk c.join_one.new.keepers)) c.args.b)
      (ap (λ (name : CoreId). take c.loop-core.core-index c.args.cores.now ++ name ∷ []) c.core-item.is
      ∙ sym (take_more c.args.cores.now c.loop-core.core-index c.core-item.result c.loop-core-test.true))
      (stage-grown split (take c.loop-core.core-index c.args.cores.now) c.core-item.result (known_of (g.D.Desk.seen c.loop-core.desk) (g.D.Desk.keeping c.loop-core.desk c.loop-core.keepers)) (known_of (g.D.Desk.seen c.join_one.new.desk) (g.D.Desk.keeping c.join_one.new.desk c.join_one.new.keepers)) c.args.b
      c.join_one.ensures.leaves.held c.join_one.ensures.leaves.seen
      (c.join_one.ensures.underway (part_in split.base c.args.b) split.plan was.opened.underway) c.in_ok-join_one.ensures.grown was);
  stops = c.in_ok-join_one.ensures.steady ∙ c.loop-core.invariant.stops;
}

pub fill-requires-clause-to_fill : goal.fill-requires-clause-to_fill
fill-requires-clause-to_fill g c =
    subst (IsToFill ((g.D.Desk.keeping c.loop-core.desk c.loop-core.keepers).part c.args.b))
    (take_all c.loop-core.core-index c.args.cores.now c.loop-core-test.false)
    (c.loop-core.invariant.joined c.requires.stage.0 c.requires.stage.1 c.requires.stage.2).to_fill

pub returns-then-fill-clause-opened : goal.returns-then-fill-clause-opened
returns-then-fill-clause-opened g c split at =
    let was = c.loop-core.invariant.opened split at in
    open-held split (known_of (g.D.Desk.seen c.loop-core.desk) (g.D.Desk.keeping c.loop-core.desk c.loop-core.keepers)) (known_of (g.D.Desk.seen c.fill.new.desk) (g.D.Desk.keeping c.fill.new.desk c.fill.new.keepers)) c.args.b
    c.fill.ensures.leaves.held c.fill.ensures.leaves.seen (c.fill.ensures.underway (part_in split.base c.args.b) split.plan was.underway) was

pub returns-then-fill-clause-whole : goal.returns-then-fill-clause-whole
returns-then-fill-clause-whole g c split cores at =
    let was : IsAtStage split (joining split.plan c.args.cores.now) (known_of (g.D.Desk.seen c.loop-core.desk) (g.D.Desk.keeping c.loop-core.desk c.loop-core.keepers)) c.args.b =
    subst (λ (names : List CoreId). IsAtStage split (joining split.plan names) (known_of (g.D.Desk.seen c.loop-core.desk) (g.D.Desk.keeping c.loop-core.desk c.loop-core.keepers)) c.args.b)
    (take_all c.loop-core.core-index c.args.cores.now c.loop-core-test.false) (c.loop-core.invariant.joined split cores at) in
    whole-filled split c.args.cores.now (known_of (g.D.Desk.seen c.fill.new.desk) (g.D.Desk.keeping c.fill.new.desk c.fill.new.keepers)) c.args.b cores
    (stage-filled split (joining split.plan c.args.cores.now) (known_of (g.D.Desk.seen c.loop-core.desk) (g.D.Desk.keeping c.loop-core.desk c.loop-core.keepers)) (known_of (g.D.Desk.seen c.fill.new.desk) (g.D.Desk.keeping c.fill.new.desk c.fill.new.keepers)) c.args.b
    c.fill.ensures.leaves.held c.fill.ensures.leaves.seen c.fill.ensures.seats
    (c.fill.ensures.underway (part_in split.base c.args.b) split.plan was.opened.underway) (c.fill.ensures.filled c.if-fill.true) was)

pub returns-else-fill-clause-opened : goal.returns-else-fill-clause-opened
returns-else-fill-clause-opened g c split at =
    let was = c.loop-core.invariant.opened split at in
    open-held split (known_of (g.D.Desk.seen c.loop-core.desk) (g.D.Desk.keeping c.loop-core.desk c.loop-core.keepers)) (known_of (g.D.Desk.seen c.fill.new.desk) (g.D.Desk.keeping c.fill.new.desk c.fill.new.keepers)) c.args.b
    c.fill.ensures.leaves.held c.fill.ensures.leaves.seen (c.fill.ensures.underway (part_in split.base c.args.b) split.plan was.underway) was
