-- Whatever event comes to a bucket, whoever holds it.
use Rattle.std.specs.Prelude.{Bool, List}
use Rattle.sc_record.specs.declared.slice.SliceId.{SliceId}
use Rattle.sc_record.specs.declared.slice.SubSlice.{SubSlice}
use Rattle.sc_record.specs.declared.slice.CoreId.{CoreId}
use Rattle.sc_cluster.specs.declared.slice.Slice.{Slice}
use Rattle.sc_bucket.specs.Events.{IsStep, IsSameButRoom, DeliversAllTo}
use Rattle.sc_bucket.specs.declared.bucket.Bucket.{Bucket}
use Rattle.sc_handover.specs.Conditions.{CanBegin, CanFeed, CanStartReplay, CanReplay, CanBeReady, CanGrow, CanSwitch, CanAbort, CanDrop, CanRejoin, CanLead}
use Rattle.sc_handover.specs.Events.{Begins, FeedsPiece, StartsReplay, ReplaysPiece, GetsReady, Grows, Switches, Aborts, Drops}
use Rattle.sc_handover.specs.Seats.{Rejoins, TakesLead}
use Rattle.sc_handover.specs.Made.{leader_of}

-- One event that only the keeper of a bucket does, or none: an event of a split, or one that changes which cores serve.
pub data IsKeeperEvent (old new : Bucket) : Type 0 where
  -- it was refused
  stays : IsSameButRoom old new → IsKeeperEvent old new
  begins : {parent : SliceId} {subs : List SubSlice} → CanBegin old parent subs → Begins old parent subs new → IsKeeperEvent old new
  feeds : {name : CoreId} {is_done : Bool} → CanFeed old name → FeedsPiece old name is_done new → IsKeeperEvent old new
  starts_replay : {name : CoreId} → CanStartReplay old name → StartsReplay old name new → IsKeeperEvent old new
  replays : {name : CoreId} {is_done : Bool} → CanReplay old name → ReplaysPiece old name is_done new → IsKeeperEvent old new
  gets_ready : {parent : SliceId} → CanBeReady old parent → GetsReady old parent new → IsKeeperEvent old new
  grows : {name : CoreId} {sub : Slice} → CanGrow old name sub → Grows old name sub new → IsKeeperEvent old new
  -- a follower found no memory to join, once what was in flight to its leader was delivered
  finds_no_memory : {name : CoreId} {sub : Slice} → CanGrow old name sub → DeliversAllTo old (leader_of name.slice) new → IsKeeperEvent old new
  switches : {parent : SliceId} → CanSwitch old parent → Switches old parent new → IsKeeperEvent old new
  aborts : {parent : SliceId} → CanAbort old parent → Aborts old parent new → IsKeeperEvent old new
  drops : {slice : SliceId} → CanDrop old slice → Drops old slice new → IsKeeperEvent old new
  rejoins : {name : CoreId} → CanRejoin old name → Rejoins old name new → IsKeeperEvent old new
  leads : {name : CoreId} → CanLead old name → TakesLead old name new → IsKeeperEvent old new

-- one event of a bucket, or none, whoever holds it: one of its own, which any holder does, or one that only its keeper does
pub data IsEvent (old new : Bucket) : Type 0 where
  of_bucket : IsStep old new → IsEvent old new
  of_keeper : IsKeeperEvent old new → IsEvent old new
