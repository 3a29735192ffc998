-- The next cell comes to the end.
use Rattle.std.proofs.Common.{◌∙◌, inl, refl, map, arith}
use Rattle.std.specs.Arc.{arc_value}
use Rattle.sc_restored.proofs.FillLemmas.{write_at_place, cells_next, clock_next, filled_all}
use Rattle.sc_restored.proofs.filling.fill.Goals as goal

pub loop-cell-init : goal.loop-cell-init
loop-cell-init c = record { cells = c.requires.none; clock = inl refl; rest = refl }

pub loop-cell-preserved : goal.loop-cell-preserved
loop-cell-preserved c =
    let cells = c.args.cells.now in
    let at = c.loop-cell.cell-index in
    let there = write_at_place cells at c.cell-item.result c.loop-cell-test.true c.cell-item.is in
    let put_is = c.in_ok-put.ensures in
    record {
      cells = cells_next (map arc_value cells) c.loop-cell.replica.cells c.put.new.replica.cells at (arc_value c.cell-item.result) c.requires.ascend there
          c.loop-cell.invariant.cells put_is.cells;
      clock = clock_next (map arc_value cells) at (arc_value c.cell-item.result) c.args.replica.now.clock c.loop-cell.replica.clock
          c.put.new.replica.clock there put_is.clock c.loop-cell.invariant.clock;
      rest = put_is.rest ∙ c.loop-cell.invariant.rest;
    }

pub returns : goal.returns
returns c =
    filled_all c.args.cells.now c.loop-cell.cell-index c.args.replica.now c.loop-cell.replica (omega (arith, c.loop-cell-test.false))
    c.loop-cell.invariant.cells c.loop-cell.invariant.clock c.loop-cell.invariant.rest
