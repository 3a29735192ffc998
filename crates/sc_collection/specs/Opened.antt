-- Which buckets and which board a collection may be opened with, and the desk for one thread over them.
use Rattle.std.specs.Prelude.{◌≡◌, ℕ, List, [], length, map, slice_get, Option, Some, None, All}
use Rattle.sc_cluster.specs.Map.{AreFirst}
use Rattle.sc_ulog.specs.declared.mode.Mode.TheVariants.{Active}
use Rattle.sc_replica.specs.Core.{Core}
use Rattle.sc_seen.specs.Seen.{Layout}
use Rattle.sc_bucket.specs.declared.bucket.Bucket.{Bucket}
use Rattle.sc_bucket.specs.declared.phase.Phase.TheVariants as phases
use Rattle.sc_bucket.specs.Sound.{IsSound}
use Rattle.sc_board.specs.declared.board.Board.{Board}
use Rattle.sc_board.specs.Boards.{IsSoundBoard}
use Rattle.sc_collection.specs.declared.shape.Shape.{Shape}
use Rattle.sc_collection.specs.Opening.{opened_with}
use Rattle.sc_collection.specs.Desks.{IsBucketOf}
use Rattle.sc_collection.specs.Alone.{AloneState, desk_of}

-- how a collection of this shape is laid out that is opened with these buckets and this board: what they have is nobody's own
abbrev pub layout_with : Shape → List Bucket → Board (Unit {0}) → Layout
layout_with shape buckets board = record {
  buckets = shape.buckets;
  nodes = shape.nodes;
  first = board.first;
  limit = shape.log_limit;
  opened = opened_with buckets board.journal.entries;
}

-- the bucket is sound, and the one of its number; it has the board's map, no split is open in it, each core is active and none is fed
pub record IsOpened (layout : Layout) (board : Board (Unit {0})) (number : ℕ) (bucket : Bucket) : Type 0 where
  pub sound : IsSound bucket
  pub is_of : IsBucketOf layout number bucket
  pub map_is : bucket.map ≡ board.map
  pub idle : bucket.phase ≡ phases.Idle
  pub active : All (λ (core : Core). core.mode ≡ Active) bucket.replicas
  pub unfed : bucket.feeds ≡ []

-- A collection of this shape may be opened with these buckets and this board: the board is sound, and began with the first map of the
-- shape and with its limit; there are as many buckets as the shape says, and each is as the board says.
pub record MayBeOpened (shape : Shape) (buckets : List Bucket) (board : Board (Unit {0})) : Type 0 where
  pub sound : IsSoundBoard board
  pub first : AreFirst shape.shards shape.replicas shape.nodes board.first
  pub limit : board.limit ≡ shape.log_limit
  pub count : length buckets ≡ shape.buckets
  pub each : (number : ℕ) (bucket : Bucket) → slice_get buckets number ≡ Some bucket
      → IsOpened (layout_with shape buckets board) board number bucket

-- each bucket in a slot
abbrev pub in_slots : List Bucket → List (Option Bucket)
in_slots buckets = map (λ (bucket : Bucket). Some bucket) buckets

-- the desk over them: nothing is out
abbrev pub desk_with : Shape → List Bucket → Board (Unit {0}) → AloneState
desk_with shape buckets board = desk_of (layout_with shape buckets board) (in_slots buckets) None (Some board) None
