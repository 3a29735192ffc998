-- When each event may come to a bucket, and what it does.
use Rattle.std.specs.Prelude.{◌≡◌, ◌≢◌, ◌≤◌, ◌⊎◌, ℤ, Bool, false, List, [], ◌∷◌, length, IsSome, All, ⊤}
use Rattle.sc_record.specs.declared.slice.SliceId.{SliceId}
use Rattle.sc_record.specs.declared.slice.CoreId.{CoreId}
use Rattle.sc_record.specs.Writes.{Write}
use Rattle.sc_cluster.specs.declared.slice.Slice.{Slice}
use Rattle.sc_cluster.specs.Slices.{forming}
use Rattle.sc_journal.specs.Journal.{write_at, is_settled}
use Rattle.sc_journal.specs.Splits.{entries_of_split}
use Rattle.sc_journal.specs.Outcomes.{Outcome, accepted, conflict, partial, log_full, out_of_memory, IsOutcome, IsMet}
use Rattle.sc_bucket.specs.Kept.{Sent}
use Rattle.sc_bucket.specs.Events.{IsSameButRoom, Accepts, Delivers, DeliversFirst, DeliversAllTo, Settles, Commits, CanDetach, Detaches}
use Rattle.sc_bucket.specs.Room.{basis, BucketIsFull}
use Rattle.sc_bucket.specs.declared.bucket.Bucket.{Bucket}
use Rattle.sc_handover.specs.Conditions.{CanBegin, CanFeed, CanStartReplay, CanReplay, CanBeReady, CanGrow, CanSwitch, CanAbort, CanDrop, CanRejoin, CanLead}
use Rattle.sc_handover.specs.Made.{leader_of}
use Rattle.sc_handover.specs.Events.{Begins, FeedsPiece, StartsReplay, ReplaysPiece, GetsReady, Grows, Switches, HaveLastWrites, Aborts, Drops}
use Rattle.sc_handover.specs.Seats.{Rejoins, TakesLead, IsLedWhole}
use Rattle.sc_world.specs.declared.event.Event.{Event}
use Rattle.sc_world.specs.declared.event.Event.TheVariants as events

-- the condition of an event holds
abbrev pub Can : Bucket → Event → Type 0
Can b (events.Accept order now) = ⊤
Can b (events.DeliverNth k) = ⊤
Can b (events.Deliver place) = ⊤
Can b (events.Settle place) = IsSome (write_at b.journal.entries place) × (is_settled b.journal.entries place ≡ false)
Can b events.Commit = ⊤
Can b (events.Detach core) = CanDetach b core
Can b (events.Rejoin core) = CanRejoin b core
Can b (events.Lead core) = CanLead b core
Can b (events.Begin plan) = CanBegin b plan.parent plan.subs
Can b (events.Feed core) = CanFeed b core
Can b (events.StartReplay core) = CanStartReplay b core
Can b (events.Replay core) = CanReplay b core
Can b events.Ready = (parent : SliceId) × CanBeReady b parent
Can b (events.Grow core) = (sub : Slice) × CanGrow b core sub
Can b events.Switch = (parent : SliceId) × CanSwitch b parent
Can b events.Abort = (parent : SliceId) × CanAbort b parent
Can b (events.Drop slice) = CanDrop b slice

-- the event was done, which adds no write: the row of each event but `Accept`
abbrev pub IsDoneWithoutWrite : Bucket → Event → Bucket → Type 0
IsDoneWithoutWrite old (events.Accept order now) new = ⊥
IsDoneWithoutWrite old (events.DeliverNth k) new =
    ((new ≡ old) × (length old.flight.messages ≤ k)) ⊎ ((message : Sent) × Delivers old k message new)
IsDoneWithoutWrite old (events.Deliver place) new =
    ((new ≡ old) × All (λ (message : Sent). message.place ≢ place) old.flight.messages)
    ⊎ ((core : CoreId) × DeliversFirst old place core new)
IsDoneWithoutWrite old (events.Settle place) new = Settles old place new
IsDoneWithoutWrite old events.Commit new = Commits old new
IsDoneWithoutWrite old (events.Detach core) new = Detaches old core new
IsDoneWithoutWrite old (events.Rejoin core) new = Rejoins old core new
IsDoneWithoutWrite old (events.Lead core) new = TakesLead old core new × IsLedWhole new core.slice
IsDoneWithoutWrite old (events.Begin plan) new = Begins old plan.parent plan.subs new
IsDoneWithoutWrite old (events.Feed core) new = (is_last : Bool) × FeedsPiece old core is_last new
IsDoneWithoutWrite old (events.StartReplay core) new = StartsReplay old core new
IsDoneWithoutWrite old (events.Replay core) new = (is_last : Bool) × ReplaysPiece old core is_last new
IsDoneWithoutWrite old events.Ready new = (parent : SliceId) × CanBeReady old parent × GetsReady old parent new
IsDoneWithoutWrite old (events.Grow core) new = (sub : Slice) × CanGrow old core sub × Grows old core sub new
IsDoneWithoutWrite old events.Switch new =
    (parent : SliceId) × CanSwitch old parent × Switches old parent new × HaveLastWrites new (forming old.map)
IsDoneWithoutWrite old events.Abort new = (parent : SliceId) × CanAbort old parent × Aborts old parent new
IsDoneWithoutWrite old (events.Drop slice) new = Drops old slice new

-- The event was done, and these are the writes that it added: an order that is accepted adds its write, and any other event none.
abbrev pub IsDone : Bucket → Event → List Write → Bucket → Type 0
IsDone old (events.Accept order now) added new =
    (version : ℤ) × (is : Accepts old order now version new) × (added ≡ is.cell.value ∷ [])
IsDone old event added new = (added ≡ []) × IsDoneWithoutWrite old event new

-- the outcome is a refusal that has nothing to do with memory
abbrev pub IsRefusingOutcome : Outcome → Type 0
IsRefusingOutcome (accepted version) = ⊥
IsRefusingOutcome (conflict found) = ⊤
IsRefusingOutcome (partial field) = ⊤
IsRefusingOutcome log_full = ⊤
IsRefusingOutcome out_of_memory = ⊥

-- the event was refused, and the bucket is as it was
abbrev pub IsRefused : Bucket → Event → Bucket → Type 0
IsRefused old (events.Accept order now) new =
    (outcome : Outcome) × IsRefusingOutcome outcome
    × IsOutcome (basis old) old.journal.entries order now outcome old.journal.entries × IsSameButRoom old new
IsRefused old events.Commit new = IsSameButRoom old new × BucketIsFull 1 old
IsRefused old (events.Rejoin core) new = IsSameButRoom old new × BucketIsFull 2 old
IsRefused old (events.Begin plan) new = IsSameButRoom old new × BucketIsFull (entries_of_split plan.subs) old
IsRefused old _ new = ⊥

-- memory ran out at the event: the bucket is as it was, but that what was in flight to a follower's leader was delivered
abbrev pub FindsNoMemory : Bucket → Event → Bucket → Type 0
FindsNoMemory old (events.Accept order now) new = IsMet old.journal.entries order × IsSameButRoom old new
FindsNoMemory old events.Commit new = IsSameButRoom old new
FindsNoMemory old (events.Rejoin core) new = IsSameButRoom old new
FindsNoMemory old (events.Begin plan) new = IsSameButRoom old new
FindsNoMemory old (events.Grow core) new = DeliversAllTo old (leader_of core.slice) new
FindsNoMemory old _ new = ⊥
