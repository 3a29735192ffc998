-- What was joined, and then what is left of both lists joined, is the whole.
use Rattle.std.proofs.Common.{◌≡◌, ◌≤◌, ◌+◌, ◌-◌, ◌++◌, drop, length}
use Rattle.sc_rows.specs.Joining.{keeps}
use Rattle.sc_rows.proofs.JoinLemmas.{joined}
use Rattle.sc_rows.proofs.joining.merged.Given as goal

abbrev pub invariant-merging : goal.invariant-merging
invariant-merging l = record {
  same : l.rows.items ++ joined (keeps l.how) (drop l.low l.left) (drop l.high l.right) ≡ joined (keeps l.how) l.left l.right;
  low : l.low ≤ length l.left;
  high : l.high ≤ length l.right;
}

abbrev pub decreases-merging : goal.decreases-merging
decreases-merging l = (length l.left - l.low) + (length l.right - l.high)
