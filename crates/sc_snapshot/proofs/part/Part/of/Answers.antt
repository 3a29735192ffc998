-- One row more is told.
use Rattle.std.proofs.Common.{◌≡◌, ℕ, ◌≤◌, List, Global, [], ◌∷◌, ◌++◌, filter, length, map, take, slice_get, sym, ap, subst, ◌∙◌, arith}
use Rattle.std.proofs.Math.Seq.{take-length}
use Rattle.std.proofs.lemmas.List.{length-map, length-take}
use Rattle.std.specs.Arc.{arc_value}
use Rattle.std.specs.declared.sync.Arc.{Arc}
use Rattle.sc_record.specs.Writes.{Write}
use Rattle.sc_snapshot.specs.Change.{IsChange}
use Rattle.sc_snapshot.specs.Rows.{is_within}
use Rattle.sc_snapshot.proofs.PartLemmas.{fewer, passing-more, passing-at}
use Rattle.sc_snapshot.proofs.part.Part.of.Goals as goal

-- so many cells there are as first rows that pass
counted : {C : Type 0} (value : C → Write) (cells : List C) (rows : List Write) → map value cells ≡ rows → length cells ≡ length rows
counted {C = C} value cells rows are = sym (length-map cells value) ∙ ap (λ (ws : List Write). length ws) are

few : (rows : List Write) (at : ℕ) → length (take at rows) ≤ at
few rows at = let size = length-take at rows in omega (arith, size)

pub loop-row-init : goal.loop-row-init
loop-row-init c =
    let rows = c.args.rows.now in
    let some = filter (is_within c.args.range.now) rows in
    let none = c.new.ensures.items in
    record {
      cells = ap (map arc_value) none;
      change = subst (λ (cells : List (Arc Write Global)). IsChange rows some 0 (length cells) c.in_ok-begin.field-0) (sym none)
          (c.in_ok-begin.ensures.change rows some);
    }

pub look-requires : goal.look-requires
look-requires c =
    let rows = c.args.rows.now in
    let at = c.loop-row.row in
    let test = is_within c.args.range.now in
    let size = counted arc_value c.loop-row.part.cells.items (filter test (take at rows)) c.loop-row.invariant.cells in
    let passing = fewer test (take at rows) in
    let first = few rows at in
    let within = c.loop-row-test.true in
    let all = c.len-row-end.ensures in
    omega (arith, size, passing, first, within, all, c.requires)

pub loop-row-preserved : goal.loop-row-preserved
loop-row-preserved c =
    let rows = c.args.rows.now in
    let at = c.loop-row.row in
    let test = is_within c.args.range.now in
    let row = arc_value c.cell.result.now in
    let before = filter test (take at rows) in
    let i = c.loop-row.invariant in
    let size = counted arc_value c.loop-row.part.cells.items before i.cells in
    record {
      cells = c.in_ok-look.ensures.cells ∙ ap (λ (ws : List Write). ws ++ filter test (row ∷ [])) i.cells
          ∙ sym (passing-more test rows at row c.cell.ensures);
      change = c.in_ok-look.ensures.change rows (filter test rows) at i.change c.cell.ensures
          (λ passes. ap (slice_get (filter test rows)) size ∙ passing-at test rows at row c.cell.ensures passes);
    }

pub returns : goal.returns
returns c =
    let rows = c.args.rows.now in
    let test = is_within c.args.range.now in
    let i = c.loop-row.invariant in
    let part = c.loop-row.part in
    let all : c.loop-row.row ≡ length rows = omega (arith, c.loop-row-test.false, c.loop-row.auto.row-end, c.len-row-end.ensures) in
    let cells : map arc_value part.cells.items ≡ filter test rows = i.cells ∙ ap (λ n. filter test (take n rows)) all ∙ ap (filter test) (take-length rows) in
    record {
      cells = cells;
      change = subst (λ n. IsChange rows (filter test rows) (length rows) n part.change) (counted arc_value part.cells.items (filter test rows) cells)
          (subst (λ n. IsChange rows (filter test rows) n (length part.cells.items) part.change) all i.change);
    }
