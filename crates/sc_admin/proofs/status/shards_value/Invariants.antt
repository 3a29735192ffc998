-- The slices from this place on that were put.
use Rattle.std.proofs.Common.{◌≡◌, ◌≤◌, length, map, drop}
use Rattle.serde_json.specs.View.{members_view}
use Rattle.sc_json.specs.Documents.{members_of}
use Rattle.sc_admin.specs.Status.{slice_member}
use Rattle.sc_admin.proofs.status.shards_value.Given as goal

abbrev pub invariant-loop-left : goal.invariant-loop-left
invariant-loop-left l = record {
  within : l.left ≤ length l.map;
  put : members_view l.members.entries ≡ members_of (map (slice_member l.nodes) (drop l.left l.map));
}

abbrev pub decreases-loop-left : goal.decreases-loop-left
decreases-loop-left l = l.left
