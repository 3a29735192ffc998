-- The cells that serve a bucket's ids: the last write of each.
use Rattle.std.specs.Prelude.{◌≡◌, ℕ, List, filter}
use Rattle.std.specs.List.{flat_map}
use Rattle.std.specs.Option.{option_to_list}
use Rattle.sc_record.specs.Names.{is_key}
use Rattle.sc_record.specs.Writes.{is_of, Write}
use Rattle.sc_record.specs.declared.entry.Entry.{Entry}
use Rattle.sc_cluster.specs.declared.slice.Slice.{Slice}
use Rattle.sc_cluster.specs.Slices.{is_active}
use Rattle.sc_replica.specs.Core.{Core}
use Rattle.sc_journal.specs.Journal.{last_write}
use Rattle.sc_replicas.specs.Cores.{core_key}
use Rattle.sc_bucket.specs.declared.bucket.Bucket.{Bucket}

-- the cells of the core that leads the slice
abbrev pub cells_of_leader : List Core → Slice → List Write
cells_of_leader cores slice = flat_map (λ (core : Core). core.cells) (filter (λ (core : Core). is_key (slice.id.0, 1) (core_key core)) cores)

-- the cells that serve: those of the leaders of the active slices, slice after slice in the order of the map
abbrev pub served : Bucket → List Write
served b = flat_map (cells_of_leader b.replicas) (filter is_active b.map)

-- the writes are the last of each id that was ever written, each once, and no others
abbrev pub AreLastWrites : List Entry → List Write → Type 0
AreLastWrites journal writes = (id : List ℕ) → filter (is_of id) writes ≡ option_to_list (last_write journal id)
