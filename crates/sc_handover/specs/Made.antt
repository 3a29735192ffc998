-- The cores and feeds that a split makes, and how far a piece of a feed goes.
use Rattle.std.specs.Prelude.{ℕ, ◌+◌, ◌≤◌, pos, false, List, [], length, filter, take, drop, if◌then◌else◌}
use Rattle.std.proofs.Math.Nat.{zero-lt-suc}
use Rattle.sc_hash.specs.declared.range.Range.{Range}
use Rattle.sc_record.specs.declared.slice.SliceId.{SliceId}
use Rattle.sc_record.specs.declared.slice.SubSlice.{SubSlice}
use Rattle.sc_record.specs.declared.slice.CoreId.{CoreId}
use Rattle.sc_record.specs.Writes.{Write}
use Rattle.sc_cluster.specs.declared.slice.Slice.{Slice}
use Rattle.sc_cluster.specs.Slices.{forming}
use Rattle.sc_snapshot.specs.Rows.{SnapshotState, is_within}
use Rattle.sc_ulog.specs.declared.mode.Mode.TheVariants.{Buffering}
use Rattle.sc_replica.specs.Core.{Core}
use Rattle.sc_replica.specs.Deliveries.{received_all}
use Rattle.sc_bucket.specs.Kept.{Sent, FeedState}
use Rattle.sc_bucket.specs.Flight.{in_flight}
use Rattle.sc_replicas.specs.Cores.{is_of_one}
use Rattle.sc_bucket.specs.declared.bucket.Bucket.{Bucket}
use Rattle.sc_bucket.specs.Pending.{left_of, new_feed}

-- the name of a slice's leader
abbrev pub leader_of : SliceId → CoreId
leader_of slice = record { slice = slice; replica = 1; counted = zero-lt-suc 0 }

-- the leader of a sub
abbrev pub first_core : SubSlice → CoreId
first_core sub = leader_of sub.id

-- a core as it is made: it buffers what comes, and has no cells
abbrev pub empty_core : CoreId → Core
empty_core name = record {
  core = name;
  number = name.replica;
  cells = [];
  mode = Buffering;
  buffer = [];
  clock = pos 0;
  down = false;
  cell_spare = 0;
  buffer_spare = 0;
}

-- a sub's range
abbrev pub sub_range : SubSlice → Range
sub_range sub = record { min = sub.min; max = sub.max; ordered = sub.ordered }

-- the cells of the core as a snapshot that is taken now
abbrev pub cells_now : Bucket → Core → SnapshotState
cells_now b core = record { place = length b.journal.entries; rows = core.cells }

-- the feed of a sub's leader, from the first row of the snapshot on
abbrev pub first_feed : SnapshotState → SubSlice → FeedState
first_feed snapshot sub = new_feed (first_core sub) (sub_range sub) snapshot

-- how many rows a piece of a feed looks at, at most
unfoldable pub feed_limit : ℕ
feed_limit = 64

-- the writes that the next piece of a feed feeds: of the rows that it looks at, those whose hash is in the core's range
abbrev pub piece_of : FeedState → List Write
piece_of feed = filter (is_within feed.range) (take feed_limit (drop feed.next feed.rows))

-- the feed once a piece was fed
abbrev pub moved_on : FeedState → FeedState
moved_on feed = record feed { next = feed.next + feed_limit }

-- the core of a slice that a split is making, once all that was in flight to it came there; any other core stays
abbrev pub settled_sub : List Slice → List Sent → Core → Core
settled_sub slices messages core =
    if is_of_one (forming slices) core.core then received_all core (in_flight messages core.core) else core

-- the core has room for all that the feed is still to feed
abbrev pub IsRoomyFor : FeedState → Core → Type 0
IsRoomyFor feed core = length (left_of feed) ≤ core.cell_spare
