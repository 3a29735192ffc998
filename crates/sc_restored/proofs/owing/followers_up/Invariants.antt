-- So far the first followers are counted that are not down.
use Rattle.std.proofs.Common.{◌≡◌, ◌≤◌, count_by}
use Rattle.sc_restored.proofs.OwingLemmas.{is_up, followers_to}
use Rattle.sc_restored.proofs.owing.followers_up.Given as goal

abbrev pub invariant-loop-below : goal.invariant-loop-below
invariant-loop-below l = record {
  counted : l.up ≡ count_by (is_up l.marks) (followers_to l.slice.id.0 l.below);
  few : l.up ≤ l.below;
}
