-- What `begin` makes before it changes a bucket.
use Rattle.std.specs.Prelude.{◌≡◌, length, map, Contains}
use Rattle.std.specs.List.{AllZip}
use Rattle.sc_record.specs.declared.slice.SliceId.{SliceId}
use Rattle.sc_cluster.specs.Changes.{Change, after}
use Rattle.sc_replica.specs.Core.{Core}
use Rattle.sc_replicas.specs.Cores.{IsLeaderOf, without_room}
use Rattle.sc_bucket.specs.Searchers.{AreTaken, AreHandedOn}
use Rattle.sc_bucket.specs.declared.bucket.Bucket.{Bucket}
use Rattle.sc_handover.specs.Made.{first_core, empty_core, cells_now, first_feed, IsRoomyFor}
use Rattle.sc_handover.specs.declared.beginning.Beginning.{Beginning}

-- All is made for the split of this parent: the map with the subs; of each sub its leader, and a feed of the rows of the parent's
-- leader, for which there is room; the searchers as they are now; and those that the switch leaves.
pub record IsPreparedFor (b : Bucket) (parent : SliceId) (beginning : Beginning) : Type 0 where
  pub slices_are : beginning.slices ≡ after b.map (Change.Begun parent beginning.subs)
  pub cores_are : map without_room beginning.cores.items ≡ map (λ sub. empty_core (first_core sub)) beginning.subs
  pub leader : Core
  pub leader_there : Contains b.replicas leader
  pub leader_is : IsLeaderOf parent leader
  pub feeds_are : beginning.feeds.items ≡ map (first_feed (cells_now b leader)) beginning.subs
  pub roomy : AllZip IsRoomyFor beginning.feeds.items beginning.cores.items
  pub taken : AreTaken b.map b.replicas (length b.journal.entries) beginning.searchers
  pub handed : AreHandedOn beginning.slices parent beginning.searchers beginning.spares
