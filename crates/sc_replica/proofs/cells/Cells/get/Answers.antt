-- The cell at the place of the id is the id's write.
use Rattle.std.proofs.Common.{Some, arith, sym, ap, ◌∙◌}
use Rattle.std.specs.Arc.{arc_value}
use Rattle.sc_record.specs.Writes.{write_of}
use Rattle.sc_replica.specs.Cells.{CellsState}
use Rattle.sc_replica.proofs.PlaceLemmas.{within-at, write_of-at, write_of-nowhere}
use Rattle.sc_replica.proofs.cells.Cells.get.Goals as goal

pub index-requires : goal.index-requires
index-requires c =
    let placed = rw c.in-Ok.is at c.place.ensures in
    omega (arith, within-at arc_value c.self.inside.cells.items c.args.id.now c.in-Ok.place placed, c.self.inside.cells.ok.0)

pub returns-in-Ok-clause-cell : goal.returns-in-Ok-clause-cell
returns-in-Ok-clause-cell c =
    let placed = rw c.in-Ok.is at c.place.ensures in
    ap (λ cell. Some (arc_value cell)) c.index.ensures
    ∙ sym (write_of-at arc_value c.self.inside.cells.items c.args.id.now c.in-Ok.place c.index.result.now c.self.invariant.0 placed)
    ∙ ap (λ (s : CellsState). write_of s.writes c.args.id.now) c.self.view_is

pub returns-in-Err-clause-cell : goal.returns-in-Err-clause-cell
returns-in-Err-clause-cell c =
    let placed = rw c.in-Err.is at c.place.ensures in
    sym (write_of-nowhere arc_value c.self.inside.cells.items c.args.id.now c.in-Err.field-0 placed)
    ∙ ap (λ (s : CellsState). write_of s.writes c.args.id.now) c.self.view_is
