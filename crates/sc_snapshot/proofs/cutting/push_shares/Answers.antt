-- One cell more is shared, for which there is room.
use Rattle.std.proofs.Common.{◌++◌, ◌∷◌, [], List, map, take, sym, ap, ◌∙◌, arith, append_assoc}
use Rattle.std.proofs.lemmas.List.{map-append, take_all}
use Rattle.std.specs.Arc.{arc_value}
use Rattle.sc_record.specs.Writes.{Write}
use Rattle.sc_snapshot.proofs.LoopLemmas.{one-more}
use Rattle.sc_snapshot.proofs.cutting.push_shares.Goals as goal

pub push_reserved-requires : goal.push_reserved-requires
push_reserved-requires c = omega (arith, c.loop-cell.invariant.room, c.loop-cell-test.true)

pub loop-cell-preserved : goal.loop-cell-preserved
loop-cell-preserved c =
    let i = c.loop-cell.invariant in
    let before = map arc_value c.args.list.now.items in
    let list = c.loop-cell.list.items in
    let cells = c.args.cells.now in
    let at = c.loop-cell.cell-index in
    let cell = c.cell-item.result in
    let share = c.in_ok-share.share in
    record {
      cells = ap (map arc_value) c.push_reserved.ensures.items ∙ map-append arc_value list (share ∷ [])
          ∙ ap (λ (w : Write). map arc_value list ++ w ∷ []) c.in_ok-share.ensures
          ∙ ap (λ (ws : List Write). ws ++ arc_value cell ∷ []) i.cells
          ∙ append_assoc before (map arc_value (take at cells)) (arc_value cell ∷ [])
          ∙ ap (λ (ws : List Write). before ++ ws) (sym (one-more arc_value cells at cell c.loop-cell-test.true c.cell-item.is));
      room = omega (arith, i.room, c.push_reserved.ensures.len, c.push_reserved.ensures.capacity);
    }

pub returns : goal.returns
returns c =
    c.loop-cell.invariant.cells
    ∙ ap (λ cells. map arc_value c.args.list.now.items ++ map arc_value cells) (take_all c.loop-cell.cell-index c.args.cells.now c.loop-cell-test.false)
