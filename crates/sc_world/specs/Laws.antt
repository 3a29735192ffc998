-- What lists of events come to, in the words of who administers a collection.
use Rattle.std.specs.Prelude.{◌≡◌, ◌⊎◌, ℕ, Bool, true, false, List, [], ◌++◌, filter, All, Contains}
use Rattle.std.specs.Str.{bytes_eq}
use Rattle.sc_record.specs.Writes.{is_of, Write}
use Rattle.sc_record.specs.declared.slice.CoreId.{CoreId}
use Rattle.sc_cluster.specs.declared.plan.SplitPlan.{SplitPlan}
use Rattle.sc_cluster.specs.declared.slice.State.TheVariants as states
use Rattle.sc_cluster.specs.declared.slice.Slice.{Slice}
use Rattle.sc_replica.specs.Core.{Core}
use Rattle.sc_journal.specs.Journal.{writes_of, last_of, last_write}
use Rattle.sc_journal.specs.Down.{is_down}
use Rattle.sc_replicas.specs.Cores.{core_key, IsLeaderOf}
use Rattle.sc_bucket.specs.Pending.{pending}
use Rattle.sc_bucket.specs.Sound.{HasLastWrites, IsSound}
use Rattle.sc_bucket.specs.declared.bucket.Bucket.{Bucket}
use Rattle.sc_handover.specs.Conditions.{CanBegin, CanRejoin}
use Rattle.sc_handover.specs.Events.{Begins, Aborts}
use Rattle.sc_handover.specs.Seats.{Rejoins}
use Rattle.sc_handover.specs.AnyEvent.{IsEvent}
use Rattle.sc_world.specs.declared.event.Event.{Event}
use Rattle.sc_world.specs.declared.event.Event.TheVariants as events
use Rattle.sc_world.specs.Steps.{Can, FindsNoMemory}
use Rattle.sc_world.specs.Runs.{IsStepped, Runs}

-- Whatever comes, splits that begin, are switched and fail among it, the last write of an id is the last of those that were there and
-- those that were accepted since.
abbrev pub KeepsTheTable : Type 0
KeepsTheTable = (old new : Bucket) (events : List Event) (added : List Write) (id : List ℕ) → Runs old events added new
    → last_write new.journal.entries id ≡ last_of (writes_of old.journal.entries id ++ filter (is_of id) added)

-- the event is an order for this id
abbrev pub orders : List ℕ → Event → Bool
orders id (events.Accept order now) = bytes_eq order.id id
orders id _ = false

-- so it stays where no order for the id comes: a split alone changes nothing
abbrev pub StaysWithoutOrders : Type 0
StaysWithoutOrders = (old new : Bucket) (events : List Event) (added : List Write) (id : List ℕ) → Runs old events added new
    → All (λ (event : Event). orders id event ≡ false) events
    → last_write new.journal.entries id ≡ last_write old.journal.entries id

-- the event may end a split
abbrev pub may_end : Event → Bool
may_end events.Switch = true
may_end events.Abort = true
may_end _ = false

-- A split that is given up, whatever came since it began, leaves the map from before it. The leader of each active slice has of each id
-- what the orders alone make of it.
abbrev pub LeavesNothing : Type 0
LeavesNothing = (old begun last new : Bucket) (plan : SplitPlan) (between : List Event) (added : List Write)
    → CanBegin old plan.parent plan.subs → Begins old plan.parent plan.subs begun → Runs begun between added last
    → All (λ (event : Event). may_end event ≡ false) between
    → IsSound old → IsSound last → Aborts last plan.parent new → IsSound new
    → (new.map ≡ old.map)
    × ((slice : Slice) (leader : Core) → Contains old.map slice → slice.state ≡ states.Active → Contains new.replicas leader
    → IsLeaderOf slice.id leader → HasLastWrites new.journal.entries slice leader)
    × ((id : List ℕ) → last_write new.journal.entries id ≡ last_of (writes_of old.journal.entries id ++ filter (is_of id) added))

-- A follower of an active slice, and so of a sub once its split was switched, has the cells of its leader once nothing is pending for
-- it, unless it is down.
abbrev pub FollowersCatchUp : Type 0
FollowersCatchUp = (b : Bucket) (slice : Slice) (leader follower : Core) → IsSound b → Contains b.map slice → slice.state ≡ states.Active
    → Contains b.replicas leader → IsLeaderOf slice.id leader
    → Contains b.replicas follower → follower.core.slice ≡ slice.id → is_down b.journal.entries (core_key follower) ≡ false → pending b.flight.messages b.feeds follower ≡ []
    → follower.cells ≡ leader.cells

-- A core that was down and rejoined has the cells of its leader once nothing is pending for it, whatever events came since and whichever
-- seat it sits in by then, unless it is down again: it has what was written while it was down.
abbrev pub RejoinedCatchUp : Type 0
RejoinedCatchUp = (old rejoined last : Bucket) (name : CoreId) (between : List Event) (added : List Write) (slice : Slice) (leader core : Core)
    → CanRejoin old name → (is : Rejoins old name rejoined) → Runs rejoined between added last → IsSound last
    → Contains last.map slice → slice.id ≡ name.slice → slice.state ≡ states.Active
    → Contains last.replicas leader → IsLeaderOf slice.id leader
    → Contains last.replicas core → core.core.slice ≡ slice.id → core.number ≡ is.core.number
    → is_down last.journal.entries (core_key core) ≡ false → pending last.flight.messages last.feeds core ≡ []
    → core.cells ≡ leader.cells

-- each event that comes, also where it is refused or memory runs out, is one of those that come to any bucket, whoever holds it
abbrev pub EventsAreOfTheTable : Type 0
EventsAreOfTheTable = (old new : Bucket) (event : Event) → Can old event → IsStepped old event new ⊎ FindsNoMemory old event new
    → IsEvent old new
