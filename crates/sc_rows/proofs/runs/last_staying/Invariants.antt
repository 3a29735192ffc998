-- The keys that were passed stay.
use Rattle.sc_rows.specs.Moving.{AllStay}
use Rattle.sc_rows.proofs.runs.last_staying.Given as goal

abbrev pub invariant-loop-next : goal.invariant-loop-next
invariant-loop-next l = AllStay l.stays l.at l.next
