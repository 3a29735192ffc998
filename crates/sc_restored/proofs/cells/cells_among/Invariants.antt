-- So far there are shares of the writes of the first entries.
use Rattle.std.proofs.Common.{◌≡◌, map, take}
use Rattle.std.specs.Arc.{arc_value}
use Rattle.sc_journal.specs.Journal.{writes}
use Rattle.sc_restored.proofs.cells.cells_among.Given as goal

abbrev pub invariant-loop-entry : goal.invariant-loop-entry
invariant-loop-entry l = map arc_value l.cells.items ≡ writes (take l.entry-index l.entries)
