-- What was joined, and then what is left of both lists joined, is the whole.
use Rattle.std.proofs.Common.{◌≡◌, ◌≤◌, ◌+◌, ◌-◌, ◌++◌, drop, length}
use Rattle.std.specs.Prelude.{vec_len}
use Rattle.sc_rows.proofs.JoinLemmas.{joined}
use Rattle.sc_rows.specs.declared.joining.Kept.TheVariants.{Either}
use Rattle.sc_rows.specs.Joining.{keeps}
use Rattle.sc_rows.specs.Moving.{new_numbers}
use Rattle.sc_rows.proofs.merging.merge_moved.Given as goal

abbrev pub invariant-merging : goal.invariant-merging
invariant-merging l = record {
  grows : vec_len l.fn.list ≤ vec_len l.list;
  same : l.list.items ++ joined (keeps Either) (new_numbers l.moved (drop l.low l.rows)) (drop l.high l.added) ≡ l.fn.list.items ++ joined (keeps Either) (new_numbers l.moved l.rows) l.added;
  low : l.low ≤ length l.rows;
  high : l.high ≤ length l.added;
}

abbrev pub decreases-merging : goal.decreases-merging
decreases-merging l = (length l.rows - l.low) + (length l.added - l.high)
