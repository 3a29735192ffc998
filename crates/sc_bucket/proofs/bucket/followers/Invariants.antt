-- So far the followers of the first slices are counted, and each slice has few.
use Rattle.std.proofs.Common.{◌≡◌, ◌≤◌, ◌*◌, length, take}
use Rattle.std.specs.List.{flat_map}
use Rattle.sc_journal.specs.Down.{follower_keys}
use Rattle.sc_bucket.proofs.bucket.followers.Given as goal

abbrev pub invariant-loop-at : goal.invariant-loop-at
invariant-loop-at l = record {
  counted : l.count ≡ length (flat_map follower_keys (take l.at l.map));
  few : l.count ≤ l.at * 255;
}
