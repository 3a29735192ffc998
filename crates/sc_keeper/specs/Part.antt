-- What only a bucket's keeper changes of the bucket: its part, as a value of the types in src/part.rt.
use Rattle.std.specs.Prelude.{ℕ, Bool, true, false, List, length, map, filter}
use Rattle.sc_record.specs.declared.entry.Entry.{Entry}
use Rattle.sc_record.specs.declared.entry.Entry.TheVariants as entry
use Rattle.sc_ulog.specs.declared.mode.Mode.{Mode}
use Rattle.sc_ulog.specs.declared.mode.Mode.TheVariants.{Replaying}
use Rattle.sc_replica.specs.Core.{Core}
use Rattle.sc_bucket.specs.Kept.{FeedState}
use Rattle.sc_bucket.specs.declared.bucket.Bucket.{Bucket}
use Rattle.sc_keeper.specs.declared.part.CorePart.{CorePart}
use Rattle.sc_keeper.specs.declared.part.FeedPart.{FeedPart}
use Rattle.sc_keeper.specs.declared.part.Part.{Part}

-- only the keeper of a bucket makes such an entry
abbrev pub is_of_keeper : Entry → Bool
is_of_keeper (entry.Write cell) = false
is_of_keeper (entry.Settled place) = false
is_of_keeper entry.Committed = false
is_of_keeper (entry.Down core) = false
is_of_keeper _ = true

-- the entries of a journal that only the keeper of its bucket makes
abbrev pub keeper_entries : List Entry → List Entry
keeper_entries journal = filter is_of_keeper journal

-- how many writes a log has still to replay in this mode, which holds so many
abbrev pub left_in : Mode → ℕ → ℕ
left_in Replaying held = held
left_in _ held = 0

-- a core's part
abbrev pub part_of_core : Core → CorePart
part_of_core core = record { name = core.core; number = core.number; mode = core.mode; left = left_in core.mode (length core.buffer) }

-- a feed's part
abbrev pub part_of_feed : FeedState → FeedPart
part_of_feed feed = record { core = feed.core; next = feed.next; rows = length feed.rows }

-- a bucket's part
abbrev pub part_of : Bucket → Part
part_of b = record {
  map = b.map;
  phase = b.phase;
  cores = map part_of_core b.replicas;
  feeds = map part_of_feed b.feeds;
  entries = keeper_entries b.journal.entries;
}
