-- The searchers of a bucket: what a search finds in its slices.
use Rattle.std.specs.Prelude.{◌≡◌, ◌≤◌, ℕ, ◌+◌, nat_eq, not, List, ◌++◌, map, filter, take, drop, slice_get, Option, Some, None, IsSome, IfSome, false, All, Contains, ⊤}
use Rattle.std.specs.Arc.{arc_value}
use Rattle.sc_hash.specs.Range.{IsWithin}
use Rattle.sc_router.specs.Route.{route_hash}
use Rattle.sc_record.specs.Writes.{write_of, Write}
use Rattle.sc_record.specs.declared.slice.SliceId.{SliceId}
use Rattle.sc_record.specs.declared.entry.Entry.{Entry}
use Rattle.sc_cluster.specs.declared.slice.State.TheVariants as states
use Rattle.sc_cluster.specs.declared.slice.Slice.{Slice}
use Rattle.sc_cluster.specs.Slices.{is_active, forming}
use Rattle.sc_replica.specs.Core.{Core}
use Rattle.sc_journal.specs.Journal.{writes, last_write}
use Rattle.sc_journal.specs.Committed.{committed}
use Rattle.sc_replicas.specs.Cores.{IsLeaderOf}
use Rattle.sc_replicas.specs.Searchers.{StandingState, standing_of}
use Rattle.sc_bucket.specs.declared.phase.Phase.{Phase}
use Rattle.sc_bucket.specs.declared.phase.Phase.TheVariants as phases
use Rattle.sc_replicas.specs.declared.standing.Standing.{Standing}
use Rattle.sc_replicas.specs.declared.standing.Searcher.{Searcher}

-- each active slice has a searcher, in the order of the map, and no other slice has one
abbrev pub AreOfEachSlice : List Slice → List Standing → Type 0
AreOfEachSlice slices searchers =
    map (λ (searcher : Standing). searcher.slice) searchers ≡ map (λ (slice : Slice). slice.id) (filter is_active slices)

-- the rows are writes of the journal, and of each id of the slice's range the last that was committed
pub record ShowsCommitted (journal : List Entry) (slice : Slice) (rows : List Write) : Type 0 where
  pub written : All (Contains (writes journal)) rows
  pub last : (id : List ℕ) → IsWithin slice.range.min slice.range.max (route_hash id)
      → write_of rows id ≡ last_write (committed journal) id

-- the searcher is that of an active slice, with its range, and its rows are the cells of the slice's leader when the journal had
-- so many entries
pub record IsTaken (slices : List Slice) (cores : List Core) (place : ℕ) (searcher : Standing) : Type 0 where
  pub slice : Slice
  pub there : Contains slices slice
  pub active : slice.state ≡ states.Active
  pub slice_is : searcher.slice ≡ slice.id
  pub range_is : searcher.range ≡ slice.range
  pub core : Core
  pub core_there : Contains cores core
  pub leader : IsLeaderOf slice.id core
  pub snapshot_is : arc_value searcher.snapshot ≡ record { place = place; rows = core.cells }

-- each active slice has its searcher, taken so
pub record AreTaken (slices : List Slice) (cores : List Core) (place : ℕ) (searchers : List Standing) : Type 0 where
  pub each_slice : AreOfEachSlice slices searchers
  pub taken : All (IsTaken slices cores place) searchers

-- each active slice has a core that leads it
abbrev pub AreLed : List Slice → List Core → Type 0
AreLed slices cores = (slice : Slice) → Contains slices slice → slice.state ≡ states.Active
    → (core : Core) × Contains cores core × IsLeaderOf slice.id core

-- none of the slices is active
abbrev pub NoneIsActive : List Slice → Type 0
NoneIsActive slices = All (λ (slice : Slice). is_active slice ≡ false) slices

-- What is found is the searcher of the first active slice from this place of the map on: a share of its snapshot, its range, and
-- the place after the slice.
pub record IsFirstSearcher (slices : List Slice) (searchers : List Standing) (journal : List Entry) (from : ℕ) (found : Searcher) : Type 0 where
  pub at : ℕ
  pub slice : Slice
  pub from_on : from ≤ at
  pub there : slice_get slices at ≡ Some slice
  pub active : slice.state ≡ states.Active
  pub first : NoneIsActive (drop from (take at slices))
  pub next_is : found.next ≡ at + 1
  pub searcher : Standing
  pub kept : Contains searchers searcher
  pub of_slice : searcher.slice ≡ slice.id
  pub snapshot_is : arc_value found.snapshot ≡ arc_value searcher.snapshot
  pub range_is : found.range ≡ slice.range
  pub shows : ShowsCommitted journal slice (arc_value found.snapshot).rows

-- the searcher of a sub that finds in its range what this one finds
abbrev pub cut_to : Slice → StandingState → StandingState
cut_to sub searcher = record { slice = sub.id; range = sub.range; snapshot = searcher.snapshot }

-- The searchers as a switch leaves them: those of the other slices, and for each sub that of the parent, cut to its range.
pub record AreHandedOn (slices : List Slice) (parent : SliceId) (old new : List Standing) : Type 0 where
  pub searcher : Standing
  pub there : Contains old searcher
  pub of_parent : searcher.slice ≡ parent
  pub handed : map standing_of new ≡ filter (λ (other : StandingState). not (nat_eq other.slice.0 parent.0)) (map standing_of old)
      ++ map (λ (sub : Slice). cut_to sub (standing_of searcher)) (forming slices)

-- where a split is open its parent has a searcher
abbrev pub HasParentSearcher : Phase → List Standing → Type 0
HasParentSearcher phases.Idle searchers = ⊤
HasParentSearcher (phases.Building parent) searchers = Contains (map (λ (searcher : Standing). searcher.slice) searchers) parent
HasParentSearcher (phases.Recovering parent) searchers = Contains (map (λ (searcher : Standing). searcher.slice) searchers) parent

-- the searchers that a switch leaves are ready, where a split is open
abbrev pub ArePrepared : Phase → List Slice → List Standing → Option (List Standing) → Type 0
ArePrepared phases.Idle slices searchers spares = spares ≡ None
ArePrepared (phases.Building parent) slices searchers spares = IfSome spares (AreHandedOn slices parent searchers) × IsSome spares
ArePrepared (phases.Recovering parent) slices searchers spares = IfSome spares (AreHandedOn slices parent searchers) × IsSome spares
