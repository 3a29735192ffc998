-- So far the core has the first of the cells.
use Rattle.std.proofs.Common.{◌≡◌, ◌⊎◌, map, take, Contains}
use Rattle.std.specs.Arc.{arc_value}
use Rattle.sc_record.specs.Writes.{Write}
use Rattle.sc_restored.specs.Restored.{emptied}
use Rattle.sc_restored.proofs.filling.fill.Given as goal

abbrev pub invariant-loop-cell : goal.invariant-loop-cell
invariant-loop-cell l = record {
  cells : l.replica.cells ≡ take l.cell-index (map arc_value l.cells);
  clock : (l.replica.clock ≡ l.initial.replica.clock)
      ⊎ Contains (map (λ (write : Write). write.version) (map arc_value l.cells)) l.replica.clock;
  rest : emptied l.replica ≡ emptied l.initial.replica;
}
