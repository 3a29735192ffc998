-- So far the count is that of the slices gone by.
use Rattle.std.proofs.Common.{◌≡◌, ◌*◌, ◌≤◌, take}
use Rattle.sc_cluster.specs.Slices.{forming}
use Rattle.sc_handover.proofs.CountLemmas.{count_followers}
use Rattle.sc_handover.proofs.aborting.followers_of_subs.Given as goal

abbrev pub invariant-loop-at : goal.invariant-loop-at
invariant-loop-at l = record {
  count : l.count ≡ count_followers (forming (take l.at l.slices));
  most : l.count ≤ 255 * l.at;
}
