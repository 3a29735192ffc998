-- The leaders of a split's subs as they are made, and their feeds.
use Rattle.std.proofs.Common.{◌≡◌, ◌≤◌, ◌∙◌, ℕ, zero, suc, Some, List, [], ◌∷◌, ◌++◌, length, map, slice_get, All, Contains, refl, sym, ap, subst, arith}
use Rattle.std.specs.List.{AllZip, IsDistinct, range_with_len}
use Rattle.std.specs.List.Sorted.{IsStrictlyIncreasing}
use Rattle.std.specs.Option.{option_map}
use Rattle.std.proofs.lemmas.List.{map-append}
use Rattle.std.proofs.lemmas.List.FromFn.{length-range_with_len, get_or-range_with_len}
use Rattle.std.proofs.lemmas.Option.{none-some, same_Some, slice_get-map}
use Rattle.std.proofs.lemmas.Simd.{map-map}
use Rattle.sc_record.specs.declared.slice.SliceId.{SliceId}
use Rattle.sc_record.specs.declared.slice.SubSlice.{SubSlice}
use Rattle.sc_record.specs.declared.slice.CoreId.{CoreId}
use Rattle.sc_cluster.specs.declared.slice.Slice.{Slice}
use Rattle.sc_cluster.specs.Plans.{IsPlan}
use Rattle.sc_cluster.proofs.ListLemmas.{Contains-map, All-from_slice_get}
use Rattle.sc_replica.specs.Core.{Core, IsCore}
use Rattle.sc_bucket.specs.Kept.{FeedState}
use Rattle.sc_record.specs.Names.{is_core}
use Rattle.sc_replicas.specs.Cores.{slice_keys, core_number, CoresAscend, without_room, IsCoreWithoutRoom}
use Rattle.sc_bucket.specs.Pending.{to_feed, left_of}
use Rattle.sc_bucket.specs.Events.{AreSameCores}
use Rattle.sc_replicas.proofs.CoreLemmas.{name_of, same_name_by, is_core-itself, AreApart-from_ascending}
use Rattle.sc_bucket.proofs.FeedLemmas.{fed_core, to_feed-of}
use Rattle.sc_bucket.proofs.TakenLemmas.{Contains-slice_get}
use Rattle.sc_bucket.proofs.InOrderLemmas.{in_order-empty}
use Rattle.sc_handover.specs.Made.{leader_of, first_core, empty_core, first_feed, IsRoomyFor}
use Rattle.sc_handover.proofs.PlanLemmas.{leaders_rise}
use Rattle.sc_snapshot.specs.Rows.{SnapshotState}

-- replica 1 of a slice is its leader
pub leader_named : (slice : SliceId) (core : CoreId) → core.slice ≡ slice → core.replica ≡ 1 → core ≡ leader_of slice
leader_named slice core of_slice first = same_name_by core (leader_of slice) (ap (λ (id : SliceId). id.0) of_slice) first

-- the leader of a sub as it is made
abbrev pub made_core : SubSlice → Core
made_core sub = empty_core (first_core sub)

-- the core is the leader of one of the subs, as it is made, and is fed these rows; it has room for them
pub record IsMade (snapshot : SnapshotState) (subs : List SubSlice) (core : Core) : Type 0 where
  pub sub : SubSlice
  pub there : Contains subs sub
  pub core_is : without_room core ≡ made_core sub
  pub feed_is : to_feed (map (first_feed snapshot) subs) core.core ≡ left_of (first_feed snapshot sub)
  pub roomy : length (left_of (first_feed snapshot sub)) ≤ core.cell_spare

-- a core that was made is in order
pub in_order-made : (name : CoreId) (core : Core) → without_room core ≡ empty_core name → IsCoreWithoutRoom core
in_order-made name core same = subst IsCore (sym same) (in_order-empty (empty_core name) refl refl refl)

-- what is made of each sub without its room is the same
pub map-made : {X : Type 0} (f : Core → X) (subs : List SubSlice) (made : List Core)
    → map without_room made ≡ map made_core subs
    → map (λ (core : Core). f (without_room core)) made ≡ map (λ (sub : SubSlice). f (made_core sub)) subs
map-made f subs made same =
    sym (map-map f without_room made) ∙ ap (map f) same ∙ map-map f made_core subs

-- they are those cores, beside others, but for their room
pub AreSameCores-made : (cores made : List Core) (subs : List SubSlice) → map without_room made ≡ map made_core subs
    → AreSameCores (cores ++ map made_core subs) (cores ++ made)
AreSameCores-made cores made subs same =
    map-append without_room cores made
    ∙ ap (λ (rest : List Core). map without_room cores ++ rest) (same ∙ sym (map-map without_room made_core subs))
    ∙ sym (map-append without_room cores (map made_core subs))

-- no two of the feeds are of one core
pub feeds_apart : (slices : List Slice) (parent : SliceId) (subs : List SubSlice) (snapshot : SnapshotState)
    → IsPlan slices parent subs → IsDistinct is_core (map fed_core (map (first_feed snapshot) subs))
feeds_apart slices parent subs snapshot plan =
    let cores : List Core = map made_core subs in
    let ascend : CoresAscend cores =
    subst IsStrictlyIncreasing (sym (map-map (λ (core : Core). core_number core.core) made_core subs))
    (leaders_rise slices parent subs plan) in
    subst (IsDistinct is_core) (map-map name_of made_core subs ∙ sym (map-map fed_core (first_feed snapshot) subs))
    (AreApart-from_ascending cores ascend)

-- the core at a place is the leader of the sub there
at_place : (snapshot : SnapshotState) (subs : List SubSlice) (made : List Core) → map without_room made ≡ map made_core subs
    → AllZip IsRoomyFor (map (first_feed snapshot) subs) made → (k : ℕ) (core : Core) → slice_get made k ≡ Some core
    → (sub : SubSlice) × (slice_get subs k ≡ Some sub) × (without_room core ≡ made_core sub)
    × IsRoomyFor (first_feed snapshot sub) core
at_place snapshot [] [] same roomy k core there = absurd (none-some core there)
at_place snapshot [] (first ∷ made) same roomy k core there = absurd roomy
at_place snapshot (sub ∷ subs) [] same roomy k core there = absurd roomy
at_place snapshot (sub ∷ subs) (first ∷ made) same roomy zero core there =
    let here : first ≡ core = same_Some first core there in
    let heads : without_room first ≡ made_core sub = cc in
    (sub, refl, ap without_room (sym here) ∙ heads, subst (IsRoomyFor (first_feed snapshot sub)) here roomy.0)
at_place snapshot (sub ∷ subs) (first ∷ made) same roomy (suc k) core there =
    let tails : map without_room made ≡ map made_core subs = cc in
    at_place snapshot subs made tails roomy.1 k core there

-- so each is made for a sub
pub All-made : (slices : List Slice) (parent : SliceId) (subs : List SubSlice) (snapshot : SnapshotState) (made : List Core)
    → IsPlan slices parent subs → map without_room made ≡ map made_core subs
    → AllZip IsRoomyFor (map (first_feed snapshot) subs) made → All (IsMade snapshot subs) made
All-made slices parent subs snapshot made plan same roomy =
    All-from_slice_get (IsMade snapshot subs) made each
  where
    feeds : List FeedState
    feeds = map (first_feed snapshot) subs

    each : (k : ℕ) (core : Core) → slice_get made k ≡ Some core → IsMade snapshot subs core
    each k core there =
        let (sub, at, is, room) = at_place snapshot subs made same roomy k core there in
        let named : core.core ≡ first_core sub = ap (λ (c : Core). c.core) is in
        record {
          sub = sub;
          there = Contains-slice_get subs k sub at;
          core_is = is;
          feed_is = to_feed-of feeds k (first_feed snapshot sub) core.core (feeds_apart slices parent subs snapshot plan)
              (slice_get-map (first_feed snapshot) subs k ∙ ap (option_map (first_feed snapshot)) at)
              (ap (λ name. is_core name (first_core sub)) named ∙ is_core-itself (first_core sub));
          roomy = room;
        }

-- the first of a slice's names is that of its leader
pub first_key : (slice : Slice) → Contains (slice_keys slice) (slice.id.0, 1)
first_key slice =
    Contains-map (λ (replica : ℕ). (slice.id.0, replica)) (range_with_len 1 slice.replicas) 1 (
      0,
      omega (arith, length-range_with_len 1 slice.replicas, slice.replicated),
      get_or-range_with_len 1 slice.replicas 0 1 slice.replicated,
    )
