-- There are no more rows than the pieces' and the cells.
use Rattle.std.proofs.Common.{◌≡◌, ◌+◌, ◌<◌, List, [], ◌∷◌, ◌++◌, map, length, sym, ap, ◌∙◌, arith, append_assoc, length-append}
use Rattle.std.proofs.lemmas.List.{length-map, map-append}
use Rattle.sc_record.specs.Writes.{Write}
use Rattle.std.specs.Arc.{arc_value}
use Rattle.sc_snapshot.proofs.cutting.cut_many.Goals as goal

-- the rows so far are as many as the first pieces' and the first cells
counted : {C : Type 0} (value : C → Write) (pieces before : List Write) (piece yielded rest all : List C)
    → pieces ++ map value piece ≡ before ++ map value yielded → yielded ++ rest ≡ all
    → length pieces + length piece + length rest ≡ length before + length all
counted {C = C} value pieces before piece yielded rest all rows left =
    let one : length (pieces ++ map value piece) ≡ length (before ++ map value yielded) = ap (λ (ws : List Write). length ws) rows in
    let other : length (yielded ++ rest) ≡ length all = ap (λ (cs : List C). length cs) left in
    let a = length-append pieces (map value piece) in
    let b = length-append before (map value yielded) in
    let c = length-append yielded rest in
    let d = length-map piece value in
    let e = length-map yielded value in
    omega (arith, one, other, a, b, c, d, e)

some_left : {C : Type 0} (rest : List C) (cell : C) (more : List C) → rest ≡ cell ∷ more → 0 < length rest
some_left {C = C} rest cell more is =
    let size : length rest ≡ length (cell ∷ more) = ap (λ (cs : List C). length cs) is in
    omega (arith, size)

pub fill-requires : goal.fill-requires
fill-requires c =
    let i = c.loop-cell.invariant in
    let all = counted arc_value c.loop-cell.pieces c.args.pieces.now c.loop-cell.piece.items c.loop-cell.yielded c.loop-cell.cell-iterator.rest.items c.args.cells.items
    i.rows i.left in
    let some = some_left c.loop-cell.cell-iterator.rest.items c.in-Some.cell c.next.new.self.rest.items (c.in-Some.ensures.steps).0 in
    omega (arith, all, some, c.requires)

pub push_piece-requires : goal.push_piece-requires
push_piece-requires c =
    let i = c.loop-cell.invariant in
    let all = counted arc_value c.loop-cell.pieces c.args.pieces.now c.loop-cell.piece.items c.loop-cell.yielded c.loop-cell.cell-iterator.rest.items c.args.cells.items
    i.rows i.left in
    omega (arith, all, c.requires)

pub loop-cell-preserved : goal.loop-cell-preserved
loop-cell-preserved c =
    let i = c.loop-cell.invariant in
    let before = c.args.pieces.now in
    let yielded = c.loop-cell.yielded in
    let cell = c.in-Some.cell in
    let rest = c.next.new.self.rest.items in
    record {
      rows = c.in_ok-fill.ensures
          ∙ ap (λ (ws : List Write). ws ++ arc_value cell ∷ []) i.rows
          ∙ append_assoc before (map arc_value yielded) (arc_value cell ∷ [])
          ∙ ap (λ (ws : List Write). before ++ ws) (sym (map-append arc_value yielded (cell ∷ [])));
      left = append_assoc yielded (cell ∷ []) rest ∙ ap (λ cells. yielded ++ cells) (sym (c.in-Some.ensures.steps).0) ∙ i.left;
    }
