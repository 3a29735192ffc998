-- It is down, or is not, after the entries so far.
use Rattle.std.proofs.Common.{◌≡◌, take}
use Rattle.sc_record.specs.Names.{key_of_core}
use Rattle.sc_journal.specs.Down.{is_down}
use Rattle.sc_restored.proofs.marks.is_down.Given as goal

abbrev pub invariant-loop-entry : goal.invariant-loop-entry
invariant-loop-entry l = l.down ≡ is_down (take l.entry-index l.entries) (key_of_core l.seat)
