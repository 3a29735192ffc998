-- The replicas after this one that were put.
use Rattle.std.proofs.Common.{◌≡◌, ◌≤◌, ◌+◌, ◌-◌, map}
use Rattle.std.specs.List.{range_with_len}
use Rattle.serde_json.specs.View.{members_view}
use Rattle.sc_json.specs.Documents.{members_of}
use Rattle.sc_admin.specs.Status.{replica_member}
use Rattle.sc_admin.proofs.status.replicas_value.Given as goal

abbrev pub invariant-loop-replica : goal.invariant-loop-replica
invariant-loop-replica l = record {
  within : l.replica ≤ l.slice.replicas;
  put : members_view l.members.entries
      ≡ members_of (map (replica_member l.nodes l.slice) (range_with_len (l.replica + 1) (l.slice.replicas - l.replica)));
}

abbrev pub decreases-loop-replica : goal.decreases-loop-replica
decreases-loop-replica l = l.replica
