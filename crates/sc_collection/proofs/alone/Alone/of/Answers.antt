-- The desk is that over the buckets and the board.
use Rattle.std.proofs.Common.{◌∙◌, List, refl, sym, ap, subst}
use Rattle.sc_bucket.specs.declared.bucket.Bucket.{Bucket}
use Rattle.sc_collection.specs.Opening.{opened_with}
use Rattle.sc_collection.specs.Alone.{AloneState, seen_alone, IsDesk}
use Rattle.sc_collection.specs.Shapes.{HasShape, SeesOpened}
use Rattle.sc_collection.proofs.OpenedLemmas.{opened_by_fields, opened_is_desk, opened_sees}
use Rattle.sc_collection.proofs.ShapeLemmas.{ranges}
use Rattle.sc_collection.proofs.alone.Alone.of.Goals as goal

pub invariant_of-result : goal.invariant_of-result
invariant_of-result c =
    let shape = c.args.shape.now in
    let opened = c.of-opened.ensures ∙ ap (λ (buckets : List Bucket). opened_with buckets c.args.board.journal.entries) c.as_slice.ensures in
    let is = opened_by_fields shape c.args.buckets c.args.board c.in_ok-full_slots.field-0.items c.in_ok-first.first c.of-opened.result
    c.new.result.items c.new-2.result.items c.requires.opened c.in_ok-full_slots.ensures c.in_ok-first.ensures opened c.new.ensures
    c.new-2.ensures in
    subst IsDesk (sym is) (opened_is_desk shape c.args.buckets c.args.board c.requires.opened (ranges shape c.requires.shape).buckets
    (ranges shape c.requires.shape).nodes.0)

pub returns-clause-desk : goal.returns-clause-desk
returns-clause-desk c =
    let opened = c.of-opened.ensures ∙ ap (λ (buckets : List Bucket). opened_with buckets c.args.board.journal.entries) c.as_slice.ensures in
    opened_by_fields c.args.shape.now c.args.buckets c.args.board c.in_ok-full_slots.field-0.items c.in_ok-first.first c.of-opened.result
    c.new.result.items c.new-2.result.items c.requires.opened c.in_ok-full_slots.ensures c.in_ok-first.ensures opened c.new.ensures
    c.new-2.ensures

pub returns-clause-layout : goal.returns-clause-layout
returns-clause-layout c =
    subst (λ (desk : AloneState). HasShape c.args.shape.now desk.layout) (sym (returns-clause-desk c))
    (record { buckets = refl; nodes = refl; first = c.requires.opened.first; limit = refl })

pub returns-clause-seen : goal.returns-clause-seen
returns-clause-seen c =
    subst (λ (desk : AloneState). SeesOpened desk.layout.opened (seen_alone desk)) (sym (returns-clause-desk c))
    (opened_sees c.args.shape.now c.args.buckets c.args.board c.requires.opened)
