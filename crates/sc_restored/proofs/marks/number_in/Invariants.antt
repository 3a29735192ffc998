-- The core that is looked for sits at this seat after the entries that are left.
use Rattle.std.proofs.Common.{◌≡◌, ◌≤◌, length, take}
use Rattle.sc_journal.specs.Seats.{seats}
use Rattle.sc_restored.proofs.marks.number_in.Given as goal

abbrev pub invariant-loop-left : goal.invariant-loop-left
invariant-loop-left l =
    (l.left ≤ length l.entries) × (seats (take l.left l.entries) l.seat.slice l.at ≡ seats l.entries l.seat.slice l.seat.replica)

abbrev pub decreases-loop-left : goal.decreases-loop-left
decreases-loop-left l = l.left
