-- The progress so far is that after the bytes so far.
use Rattle.std.proofs.Common.{◌≡◌, ◌-◌, ◌≤◌, fold, take, length}
use Rattle.sc_http.specs.HeadEnd.{next_progress}
use Rattle.sc_http.proofs.head_end.HeadProgress.after.Given as goal

abbrev pub invariant-loop-at : goal.invariant-loop-at
invariant-loop-at l = (l.at ≤ length l.bytes) × (l.progress ≡ fold next_progress l.fn.self (take l.at l.bytes))

abbrev pub decreases-loop-at : goal.decreases-loop-at
decreases-loop-at l = length l.bytes - l.at
