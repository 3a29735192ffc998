-- The rows of the range are rows, and the index that is carried over is theirs.
use Rattle.std.proofs.Common.{◌≡◌, ℕ, List, true, filter, length, map, sym, ap, subst, ◌∙◌}
use Rattle.std.specs.Arc.{arc_value}
use Rattle.std.specs.List.{list_all}
use Rattle.sc_record.specs.Writes.{Write}
use Rattle.sc_snapshot.specs.Change.{IsChange}
use Rattle.sc_snapshot.specs.Postings.{has_id_alone, IsIndexed}
use Rattle.sc_snapshot.specs.Rows.{SnapshotState, AreRows, is_within}
use Rattle.sc_snapshot.specs.declared.index.Index.{Index}
use Rattle.sc_snapshot.proofs.IdLemmas.{alone-passing}
use Rattle.sc_snapshot.proofs.LostLemmas.{others_stay}
use Rattle.sc_snapshot.proofs.NextLemmas.{keeps_order}
use Rattle.sc_snapshot.proofs.PartLemmas.{rows-passing}
use Rattle.sc_snapshot.proofs.snapshot.Snapshot.within.Goals as goal

pub carried-requires-clause-order : goal.carried-requires-clause-order
carried-requires-clause-order c =
    let all = c.pieces.result.now in
    let some = filter (is_within c.args.range.now) all in
    keeps_order all some (length all) (length some) c.in_ok-cells.field-0.change c.in_ok-cells.ensures.change

pub carried-requires-clause-others : goal.carried-requires-clause-others
carried-requires-clause-others c =
    let all = c.pieces.result.now in
    let some = filter (is_within c.args.range.now) all in
    let before : IsIndexed all c.deref.result.now = subst (λ (rows : List Write). IsIndexed rows c.deref.result.now) (sym c.pieces.ensures.rows)
    (subst (λ (index : Index). IsIndexed c.self.inside.rows.rows index) (sym c.deref.ensures) c.self.invariant) in
    others_stay all some (length some) c.in_ok-cells.field-0.change c.in_ok-cells.ensures.change c.deref.result.now.segment before.terms

pub carried-requires-clause-rows : goal.carried-requires-clause-rows
carried-requires-clause-rows c =
    let all : AreRows c.pieces.result.now = subst AreRows (sym c.pieces.ensures.rows) c.pieces.ensures.are_rows in
    subst AreRows (sym (ap (map arc_value) c.as_slice.ensures.value ∙ c.in_ok-cells.ensures.cells))
    (rows-passing (is_within c.args.range.now) c.pieces.result.now all)

pub from_cells-requires : goal.from_cells-requires
from_cells-requires c =
    let all : AreRows c.pieces.result.now = subst AreRows (sym c.pieces.ensures.rows) c.pieces.ensures.are_rows in
    subst AreRows (sym c.in_ok-cells.ensures.cells) (rows-passing (is_within c.args.range.now) c.pieces.result.now all)

pub returns : goal.returns
returns c =
    let now = c.args.self.now in
    let test = is_within c.args.range.now in
    let same : c.pieces.result.now ≡ now.rows = c.pieces.ensures.rows ∙ ap (λ (s : SnapshotState). s.rows) c.self.view_is in
    let rows = c.in_ok-cells.ensures.cells ∙ ap (filter test) same in
    let place : c.place.result ≡ now.place = c.place.ensures ∙ ap (λ (s : SnapshotState). s.place) c.self.view_is in
    c.in_ok-from_cells.ensures
    ∙ ap (λ (n : ℕ). record { place = n; rows = map arc_value c.in_ok-cells.field-0.cells.items }) place
    ∙ ap (λ (these : List Write). record { place = now.place; rows = these }) rows

pub invariant_of-result : goal.invariant_of-result
invariant_of-result c =
    let test = is_within c.args.range.now in
    let all = c.pieces.result.now in
    let cells = c.as_slice.result.now in
    let change = c.in_ok-cells.field-0.change in
    let value = c.as_slice.ensures.value in
    let some : map arc_value cells ≡ filter test all = ap (map arc_value) value ∙ c.in_ok-cells.ensures.cells in
    let before : IsIndexed all c.deref.result.now = subst (λ (rows : List Write). IsIndexed rows c.deref.result.now) (sym c.pieces.ensures.rows)
    (subst (λ (index : Index). IsIndexed c.self.inside.rows.rows index) (sym c.deref.ensures) c.self.invariant) in
    let told : IsChange all (map arc_value cells) (length all) (length (map arc_value cells)) change =
    subst (λ (rows : List Write). IsChange all rows (length all) (length rows) change) (sym some) c.in_ok-cells.ensures.change in
    let after = c.in_ok-index.ensures all before told
    (λ alone. subst (λ (rows : List Write). list_all has_id_alone rows ≡ true) (sym some) (alone-passing test all alone)) in
    let rows = ap (λ (s : SnapshotState). s.rows) c.in_ok-from_cells.ensures ∙ sym (ap (map arc_value) value) in
    subst (λ (these : List Write). IsIndexed these (arc_value c.in_ok-index.index)) (sym rows) after
