-- So far it is the map after the first entries.
use Rattle.std.proofs.Common.{◌≡◌, take}
use Rattle.sc_journal.specs.Splits.{map_after}
use Rattle.sc_restored.proofs.map.map_after.Given as goal

abbrev pub invariant-loop-entry : goal.invariant-loop-entry
invariant-loop-entry l = l.map ≡ map_after l.first (take l.entry-index l.entries)
