-- What is still to come to a core: what is in flight to it, what it keeps in its buffer, and what it is still to be fed.
use Rattle.std.specs.Prelude.{Bool, List, ◌++◌, filter, drop}
use Rattle.std.specs.List.{flat_map}
use Rattle.sc_hash.specs.declared.range.Range.{Range}
use Rattle.sc_record.specs.declared.slice.CoreId.{CoreId}
use Rattle.sc_record.specs.Writes.{Write}
use Rattle.sc_snapshot.specs.Rows.{SnapshotState, is_within}
use Rattle.sc_replica.specs.Core.{Core}
use Rattle.sc_bucket.specs.Kept.{Sent, FeedState}
use Rattle.sc_record.specs.Names.{is_core}
use Rattle.sc_bucket.specs.Flight.{in_flight}

-- a feed of the core, whose range this is, from the first row of the snapshot on
abbrev pub new_feed : CoreId → Range → SnapshotState → FeedState
new_feed core range snapshot =
    record { core = core; range = range; place = snapshot.place; rows = snapshot.rows; next = 0 }

-- the feed is that of the core of this name
abbrev pub is_feed_of : CoreId → FeedState → Bool
is_feed_of core feed = is_core core feed.core

-- the rows that a feed has still to feed: of those that it has not looked at, those whose hash is in the core's range
abbrev pub left_of : FeedState → List Write
left_of feed = filter (is_within feed.range) (drop feed.next feed.rows)

-- the writes that a core is still to be fed
abbrev pub to_feed : List FeedState → CoreId → List Write
to_feed feeds core = flat_map left_of (filter (is_feed_of core) feeds)

-- the writes that are pending for a core: those of the messages to it, those in its buffer, and those that it is still to be fed
abbrev pub pending : List Sent → List FeedState → Core → List Write
pending messages feeds core = in_flight messages core.core ++ core.buffer ++ to_feed feeds core.core
