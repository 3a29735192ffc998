-- So far the count is that of the replicas gone by.
use Rattle.std.proofs.Common.{◌≡◌, ◌-◌, ◌≤◌}
use Rattle.sc_handover.proofs.CountLemmas.{count_first_up}
use Rattle.sc_handover.proofs.switching.followers_up.Given as goal

abbrev pub invariant-loop-below : goal.invariant-loop-below
invariant-loop-below l = record {
  count : l.count ≡ count_first_up l.bucket.journal.entries l.slice (l.below - 1);
  most : l.count ≤ l.below;
}
