-- One cell more is shared.
use Rattle.std.proofs.Common.{◌++◌, ◌∷◌, [], List, map, take, sym, ap, ◌∙◌}
use Rattle.std.proofs.lemmas.List.{map-append}
use Rattle.std.specs.Arc.{arc_value}
use Rattle.sc_record.specs.Writes.{Write}
use Rattle.sc_snapshot.proofs.ChangeLemmas.{take-next}
use Rattle.sc_snapshot.proofs.whole.cells_of.Goals as goal

pub loop-row-preserved : goal.loop-row-preserved
loop-row-preserved c =
    let rows = c.args.rows.now in
    let at = c.loop-row.row in
    let share = c.in_ok-try_clone.field-0 in
    ap (map arc_value) c.in_ok-push.ensures.items ∙ map-append arc_value c.loop-row.cells.items (share ∷ [])
    ∙ ap (λ (ws : List Write). ws ++ arc_value share ∷ []) c.loop-row.invariant
    ∙ ap (λ (w : Write). take at rows ++ w ∷ []) c.in_ok-try_clone.ensures
    ∙ sym (take-next rows at (arc_value c.cell.result.now) c.cell.ensures)
