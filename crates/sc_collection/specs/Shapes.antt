-- Which shapes a collection may have, and how it is laid out by one.
use Rattle.std.specs.Prelude.{◌≡◌, ◌==◌, ◌&&◌, Bool, true, nat_le, ℕ, ◌+◌, ◌-◌, ◌*◌, ◌^◌, [], length}
use Rattle.std.specs.List.{list_any, range_with_len}
use Rattle.sc_router.specs.Route.{most_bucket_bits}
use Rattle.sc_cluster.specs.Map.{AreFirst}
use Rattle.sc_journal.specs.Limits.{least_journal, greatest_journal}
use Rattle.sc_seen.specs.Seen.{Opened, opened_at, Layout, Seen}
use Rattle.sc_collection.specs.declared.shape.Shape.{Shape}

-- the least limit of a journal: that of a bucket, and an entry for each replica of a shard above the first
abbrev pub least_limit : Shape → ℕ
least_limit shape = least_journal + shape.shards * (shape.replicas - 1)

-- the number is in the range
abbrev pub is_in_range : (least most : ℕ) → ℕ → Bool
is_in_range least most number = nat_le least number && nat_le number most

-- a power of two, from 1 to the most buckets
abbrev pub is_bucket_count : ℕ → Bool
is_bucket_count number = list_any (λ k. number == 2 ^ k) (range_with_len 0 (most_bucket_bits + 1))

-- the most nodes, shards at first, and replicas of each shard
abbrev pub most_nodes : ℕ
most_nodes = 16

abbrev pub most_shards : ℕ
most_shards = 64

abbrev pub most_replicas : ℕ
most_replicas = 4

-- each number of the shape is in its range
abbrev pub is_shape : Shape → Bool
is_shape shape =
    is_in_range 1 most_nodes shape.nodes && is_in_range 1 most_shards shape.shards && is_in_range 1 most_replicas shape.replicas
    && is_bucket_count shape.buckets
    && is_in_range (least_limit shape) greatest_journal shape.log_limit

-- it is one that a collection may have
abbrev pub IsShape : Shape → Type 0
IsShape shape = is_shape shape ≡ true

-- the layout is that of the shape: each bucket begins with the map of its shards
pub record HasShape (shape : Shape) (layout : Layout) : Type 0 where
  pub buckets : layout.buckets ≡ shape.buckets
  pub nodes : layout.nodes ≡ shape.nodes
  pub first : AreFirst shape.shards shape.replicas shape.nodes layout.first
  pub limit : layout.limit ≡ shape.log_limit

-- Nothing happened since the collection was opened: each journal has the entries that it had then, and none is one's own.
pub record SeesOpened (opened : Opened) (seen : Seen) : Type 0 where
  pub journals : (lock : ℕ) → length (seen.journals lock) ≡ opened_at opened lock
  pub board : length seen.board ≡ opened.board
  pub own : (lock : ℕ) → seen.own lock ≡ []
