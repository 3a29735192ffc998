-- One change more has its edit.
use Rattle.std.proofs.Common.{◌≤◌, List, [], ◌∷◌, ◌++◌, map, take, length, sym, ap, subst, ◌∙◌, arith}
use Rattle.std.proofs.lemmas.List.{map-append}
use Rattle.std.specs.List.{AllByRecursion}
use Rattle.sc_record.specs.Writes.{Write}
use Rattle.sc_snapshot.proofs.EditedLemmas.{end_of, end-bounded, end-push, order-push, below-next, row_at, later-above}
use Rattle.sc_snapshot.proofs.LoopLemmas.{one-more}
use Rattle.sc_snapshot.proofs.PlaceLemmas.{order, each-append}
use Rattle.sc_snapshot.specs.Edits.{put_in, next_of, AreInOrder, AreBelow, IsPlace}
use Rattle.sc_snapshot.specs.Rows.{lent}
use Rattle.sc_snapshot.specs.declared.edits.Edit.{Edit}
use Rattle.sc_snapshot.proofs.edits.edits_of.Goals as goal

pub of-edit-requires-clause-from : goal.of-edit-requires-clause-from
of-edit-requires-clause-from c =
    let i = c.loop-change.invariant in
    subst (λ n. n ≤ length c.args.rows.now) i.end (end-bounded (length c.args.rows.now) 0 c.loop-change.edits.items i.in_order)

pub of-edit-requires-clause-before : goal.of-edit-requires-clause-before
of-edit-requires-clause-before c =
    let index = c.loop-change.change-index in
    c.loop-change.invariant.below index (lent c.change-item.result) (omega arith)
    (row_at lent c.args.changes.now index c.change-item.result c.loop-change-test.true c.change-item.is)

pub loop-change-preserved : goal.loop-change-preserved
loop-change-preserved c =
    let i = c.loop-change.invariant in
    let rows = c.args.rows.now in
    let changes = c.args.changes.now in
    let index = c.loop-change.change-index in
    let change = c.change-item.result in
    let edits = c.loop-change.edits.items in
    let edit = c.of-edit.result in
    let made = c.of-edit.ensures in
    let items = c.in_ok-push.ensures.items in
    let here = row_at lent changes index change c.loop-change-test.true c.change-item.is in
    record {
      changes = ap (λ (es : List Edit). map put_in es) items ∙ map-append put_in edits (edit ∷ [])
          ∙ ap (λ (ws : List Write). ws ++ put_in edit ∷ []) i.changes
          ∙ ap (λ (w : Write). map lent (take index changes) ++ w ∷ []) made.change
          ∙ sym (one-more lent changes index change c.loop-change-test.true c.change-item.is);
      in_order = subst (AreInOrder (length rows) 0) (sym items)
          (order-push (length rows) 0 edits edit i.in_order (subst (λ n. n ≤ edit.at) (sym i.end) made.from) made.bounded);
      end = ap (end_of 0) items ∙ end-push 0 edits edit ∙ sym c.next-from.ensures;
      places = subst (AllByRecursion (λ (e : Edit). IsPlace rows e.at (next_of e) (put_in e).id)) (sym items)
          (each-append (λ (e : Edit). IsPlace rows e.at (next_of e) (put_in e).id) edits (edit ∷ []) i.places (made.place, tt));
      below = λ k row later at.
          subst (λ n. AreBelow row.id (take n rows)) (sym c.next-from.ensures)
          (below-next rows edit.at (next_of edit) (put_in edit).id row.id (omega arith) made.place
          (ap (λ (w : Write). order w.id row.id) made.change
          ∙ later-above (map lent changes) index k (lent change) row c.requires.changes here at (omega (arith, later))));
    }
