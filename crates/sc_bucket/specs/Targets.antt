-- To which core the next message of a write goes, and the message to one core alone.
use Rattle.std.specs.Prelude.{◌≡◌, ◌↔◌, ℕ, IsTrue, Contains}
use Rattle.sc_record.specs.declared.slice.CoreId.{CoreId}
use Rattle.sc_hash.specs.Range.{IsWithin}
use Rattle.sc_router.specs.Route.{route_hash}
use Rattle.sc_cluster.specs.declared.slice.Slice.{Slice}
use Rattle.sc_cluster.specs.Slices.{node_of}
use Rattle.sc_journal.specs.Seats.{seats}
use Rattle.sc_bucket.specs.Kept.{Sent}
use Rattle.sc_bucket.specs.Flight.{IsFirstOf}
use Rattle.sc_bucket.specs.Events.{Delivers, CanDetach}
use Rattle.sc_bucket.specs.declared.bucket.Bucket.{Bucket}
use Rattle.sc_bucket.specs.declared.targets.Target.{Target}

-- The target is that of the first message in flight of the write at the place: its core, whose slice has the hash of the write's id; the
-- node of the core that sits in that seat, in a cluster of so many nodes; and whether the core may be marked as down.
pub record IsTarget (b : Bucket) (place nodes : ℕ) (target : Target) : Type 0 where
  pub at : ℕ
  pub message : Sent
  pub first : IsFirstOf place b.flight.messages at message
  pub core_is : target.core ≡ message.core
  pub slice : Slice
  pub there : Contains b.map slice
  pub slice_is : slice.id ≡ target.core.slice
  pub in_range : IsWithin slice.range.min slice.range.max (route_hash message.write.id)
  pub node_is : target.node ≡ node_of slice.node (seats b.journal.entries slice.id target.core.replica) nodes
  pub follows : IsTrue target.follower ↔ CanDetach b target.core

-- the message of the write at the place to the core of this name is delivered
pub record DeliversTo (old : Bucket) (place : ℕ) (core : CoreId) (new : Bucket) : Type 0 where
  pub at : ℕ
  pub message : Sent
  pub of_write : message.place ≡ place
  pub core_is : message.core ≡ core
  pub delivers : Delivers old at message new
