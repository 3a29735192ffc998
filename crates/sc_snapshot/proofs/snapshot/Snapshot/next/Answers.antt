-- The rows after the edits are those after the changes, and the index is theirs.
use Rattle.std.proofs.Common.{◌≡◌, ◌≤◌, List, true, map, length, sym, ap, subst, ◌∙◌}
use Rattle.std.specs.Arc.{arc_value}
use Rattle.std.specs.List.{list_all}
use Rattle.sc_record.specs.Writes.{Write}
use Rattle.sc_snapshot.specs.Change.{IsChange}
use Rattle.sc_snapshot.specs.Edits.{edited, AreInOrder}
use Rattle.sc_snapshot.specs.Postings.{has_id_alone, IsIndexed}
use Rattle.sc_snapshot.specs.Rows.{SnapshotState, AreRows, AreChanged, lent}
use Rattle.sc_snapshot.specs.declared.edits.Edit.{Edit}
use Rattle.sc_snapshot.specs.declared.index.Index.{Index}
use Rattle.sc_snapshot.proofs.EditedLemmas.{rows-after}
use Rattle.sc_snapshot.proofs.IdLemmas.{alone-edited}
use Rattle.sc_snapshot.proofs.LostLemmas.{others_stay}
use Rattle.sc_snapshot.proofs.NextLemmas.{keeps_order}
use Rattle.sc_snapshot.proofs.snapshot.Snapshot.next.Goals as goal

pub of-requires-clause-new : goal.of-requires-clause-new
of-requires-clause-new c =
    let old = c.pieces-old.result.now in
    let changes = map lent c.args.changes.now in
    let edits = c.in_ok-edits.edits.items in
    let same : old ≡ c.args.self.now.rows = c.pieces-old.ensures.rows ∙ ap (λ (s : SnapshotState). s.rows) c.self.view_is in
    let are = subst AreRows (sym c.pieces-old.ensures.rows) c.pieces-old.ensures.are_rows in
    let after = rows-after c.args.self.now.rows old changes edits same are c.requires.ascend c.in_ok-edits.ensures c.requires.bounded in
    subst (λ (es : List Edit). length (edited old 0 es) ≤ 16777216) (sym c.as_slice.ensures.value) after.0.bounded

pub next-requires-clause-order : goal.next-requires-clause-order
next-requires-clause-order c =
    let old = c.pieces-old.result.now in
    let new = edited old 0 c.as_slice.result.now in
    keeps_order old new (length old) (length new) c.in_ok-rows.field-0.change c.in_ok-rows.ensures.change

pub next-requires-clause-others : goal.next-requires-clause-others
next-requires-clause-others c =
    let old = c.pieces-old.result.now in
    let new = edited old 0 c.as_slice.result.now in
    let before : IsIndexed old c.deref-2.result.now = subst (λ (rows : List Write). IsIndexed rows c.deref-2.result.now) (sym c.pieces-old.ensures.rows)
    (subst (λ (index : Index). IsIndexed c.self.inside.rows.rows index) (sym c.deref-2.ensures) c.self.invariant) in
    others_stay old new (length new) c.in_ok-rows.field-0.change c.in_ok-rows.ensures.change c.deref-2.result.now.segment before.terms

pub next-requires-clause-new : goal.next-requires-clause-new
next-requires-clause-new c =
    let old = c.pieces-old.result.now in
    let changes = map lent c.args.changes.now in
    let edits = c.in_ok-edits.edits.items in
    let same : old ≡ c.args.self.now.rows = c.pieces-old.ensures.rows ∙ ap (λ (s : SnapshotState). s.rows) c.self.view_is in
    let are = subst AreRows (sym c.pieces-old.ensures.rows) c.pieces-old.ensures.are_rows in
    let after = rows-after c.args.self.now.rows old changes edits same are c.requires.ascend c.in_ok-edits.ensures c.requires.bounded in
    subst AreRows (sym (c.in_ok-rows.ensures.rows ∙ ap (edited old 0) c.as_slice.ensures.value)) after.0

pub from_pieces-requires : goal.from_pieces-requires
from_pieces-requires c =
    let old = c.pieces-old.result.now in
    let changes = map lent c.args.changes.now in
    let edits = c.in_ok-edits.edits.items in
    let same : old ≡ c.args.self.now.rows = c.pieces-old.ensures.rows ∙ ap (λ (s : SnapshotState). s.rows) c.self.view_is in
    let are = subst AreRows (sym c.pieces-old.ensures.rows) c.pieces-old.ensures.are_rows in
    let after = rows-after c.args.self.now.rows old changes edits same are c.requires.ascend c.in_ok-edits.ensures c.requires.bounded in
    subst AreRows (sym (c.in_ok-rows.ensures.rows ∙ ap (edited old 0) c.as_slice.ensures.value)) after.0

pub returns-clause-changed : goal.returns-clause-changed
returns-clause-changed c =
    let old = c.pieces-old.result.now in
    let changes = map lent c.args.changes.now in
    let edits = c.in_ok-edits.edits.items in
    let same : old ≡ c.args.self.now.rows = c.pieces-old.ensures.rows ∙ ap (λ (s : SnapshotState). s.rows) c.self.view_is in
    let are = subst AreRows (sym c.pieces-old.ensures.rows) c.pieces-old.ensures.are_rows in
    let after = rows-after c.args.self.now.rows old changes edits same are c.requires.ascend c.in_ok-edits.ensures c.requires.bounded in
    subst (AreChanged c.args.self.now.rows changes)
    (sym (ap (λ (s : SnapshotState). s.rows) c.in_ok-from_pieces.ensures ∙ c.in_ok-rows.ensures.rows ∙ ap (edited old 0) c.as_slice.ensures.value)) after.1

pub invariant_of-result : goal.invariant_of-result
invariant_of-result c =
    let old = c.pieces-old.result.now in
    let edits = c.as_slice.result.now in
    let made = c.in_ok-rows.ensures in
    let new = c.in_ok-rows.field-0.rows in
    let change = c.in_ok-rows.field-0.change in
    let in_order : AreInOrder (length old) 0 edits = subst (AreInOrder (length old) 0) (sym c.as_slice.ensures.value) c.in_ok-edits.ensures.in_order in
    let before : IsIndexed old c.deref-2.result.now = subst (λ (rows : List Write). IsIndexed rows c.deref-2.result.now) (sym c.pieces-old.ensures.rows)
    (subst (λ (index : Index). IsIndexed c.self.inside.rows.rows index) (sym c.deref-2.ensures) c.self.invariant) in
    let told : IsChange old new (length old) (length new) change =
    subst (λ (rows : List Write). IsChange old rows (length old) (length rows) change) (sym made.rows) made.change in
    let after = c.in_ok-index.ensures old before told
    (λ alone rows. subst (λ (ws : List Write). list_all has_id_alone ws ≡ true) (sym made.rows)
    (alone-edited old edits in_order rows (sym made.alone ∙ alone))) in
    subst (λ (these : List Write). IsIndexed these (arc_value c.in_ok-index.index)) (sym (ap (λ (s : SnapshotState). s.rows) c.in_ok-from_pieces.ensures)) after
