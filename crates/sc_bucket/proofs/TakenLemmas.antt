-- The searcher that is taken of an active slice, those of all of them, and which searcher is a slice's.
use Rattle.std.proofs.Common.{◌≡◌, ◌∙◌, ℕ, ◌+◌, ◌<◌, ◌≤◌, Bool, true, false, cond, List, [], ◌∷◌, ◌++◌, length, map, filter, take, drop, slice_get, Some, Option, Contains, refl, sym, ap, subst, arith, length-append}
use Rattle.std.proofs.lemmas.List.{append-nil, length-map, map-append, length-take, drop-append-le, take_all, take_more, take-append-drop}
use Rattle.std.proofs.lemmas.List.Elements.{All-push, filter_more, filter-append}
use Rattle.std.proofs.lemmas.Option.{slice_get_within, get_or_from_slice_get, same_Some}
use denote.Enum.Bare.{sameb}
use Rattle.sc_record.specs.declared.slice.SliceId.{SliceId}
use Rattle.sc_record.specs.declared.slice.CoreId.{CoreId}
use Rattle.sc_cluster.specs.contracts.slice.State.{the_type}
use Rattle.sc_cluster.specs.declared.slice.State.{State}
use Rattle.sc_cluster.specs.declared.slice.State.TheVariants as states
use Rattle.sc_cluster.specs.declared.slice.Slice.{Slice}
use Rattle.sc_cluster.specs.Slices.{is_active_state, is_active}
use Rattle.sc_cluster.specs.Changes.{IsBeingSplit}
use Rattle.sc_cluster.proofs.ListLemmas.{Contains-map, Contains-filter}
use Rattle.sc_replica.specs.Core.{Core}
use Rattle.sc_replicas.specs.Cores.{IsLeaderOf}
use Rattle.sc_bucket.specs.Searchers.{AreOfEachSlice, NoneIsActive, HasParentSearcher}
use Rattle.sc_bucket.specs.Sound.{IsInPhase}
use Rattle.sc_bucket.specs.declared.bucket.Bucket.{Bucket}
use Rattle.sc_bucket.specs.declared.phase.Phase.{Phase}
use Rattle.sc_bucket.specs.declared.phase.Phase.TheVariants as phases
use Rattle.sc_replicas.specs.declared.standing.Standing.{Standing}
use Rattle.sc_replicas.proofs.CoreLemmas.{is_core-Decides, IsCoreFound}
use Rattle.sc_replicas.proofs.StandingLemmas.{slice_of}

-- an element at a place is one of the list
pub Contains-slice_get : {X : Type 0} (xs : List X) (at : ℕ) (x : X) → slice_get xs at ≡ Some x → Contains xs x
Contains-slice_get xs at x there = (at, slice_get_within xs at x there, get_or_from_slice_get xs at x x there)

-- the core that a search for a leader's name finds is one of the cores, and leads the slice
pub found_leads : (cores : List Core) (name : CoreId) (found : Option ℕ) (at : ℕ) (core : Core) → IsCoreFound cores name found
    → found ≡ Some at → slice_get cores at ≡ Some core → name.replica ≡ 1 → Contains cores core × IsLeaderOf name.slice core
found_leads cores name found at core is found_at there first =
    let (other, other_there, named) = subst (IsCoreFound cores name) found_at is in
    let alike : name ≡ other.core = (is_core-Decides name other.core).0 named in
    let same : other ≡ core = same_Some other core (sym other_there ∙ there) in
    let is_name : name ≡ core.core = alike ∙ ap (λ (c : Core). c.core) same in (
      Contains-slice_get cores at core there,
      (ap (λ (n : CoreId). n.slice) (sym is_name), ap (λ (n : CoreId). n.replica) (sym is_name) ∙ first),
    )

-- what the test for an active slice says
pub active_from_test : (state : State) → sameb the_type state states.Active ≡ true → state ≡ states.Active
active_from_test states.Active test = refl
active_from_test states.Inactive test = cc
active_from_test states.Construction test = cc
active_from_test states.Recovery test = cc

pub inactive_from_test : (state : State) → sameb the_type state states.Active ≡ false → is_active_state state ≡ false
inactive_from_test states.Active test = cc
inactive_from_test states.Inactive test = refl
inactive_from_test states.Construction test = refl
inactive_from_test states.Recovery test = refl

-- the active ones of the first slices and the next
active_more : (slices : List Slice) (at : ℕ) (slice : Slice) (b : Bool) → slice_get slices at ≡ Some slice → is_active slice ≡ b
    → filter is_active (take (at + 1) slices) ≡ filter is_active (take at slices) ++ cond b (slice ∷ []) []
active_more slices at slice b there is =
    let before : List Slice = filter is_active (take at slices) in
    filter_more is_active slices at slice (slice_get_within slices at slice there)
    ∙ ap (λ (s : Slice). before ++ cond (is_active s) (s ∷ []) []) (get_or_from_slice_get slices at slice slice there)
    ∙ ap (λ t. before ++ cond t (slice ∷ []) []) is

-- the name of a slice
abbrev name_of : Slice → SliceId
name_of slice = slice.id

-- an active slice has its searcher after those of the slices before it
pub AreOfEachSlice-active : (slices : List Slice) (at : ℕ) (slice : Slice) (searchers : List Standing) (searcher : Standing)
    → slice_get slices at ≡ Some slice → slice.state ≡ states.Active → searcher.slice ≡ slice.id
    → AreOfEachSlice (take at slices) searchers → AreOfEachSlice (take (at + 1) slices) (searchers ++ searcher ∷ [])
AreOfEachSlice-active slices at slice searchers searcher there active is so_far =
    let before : List Slice = filter is_active (take at slices) in
    map-append (λ (s : Standing). s.slice) searchers (searcher ∷ [])
    ∙ ap (λ ids. ids ++ searcher.slice ∷ []) so_far
    ∙ ap (λ id. map name_of before ++ id ∷ []) is
    ∙ sym (map-append name_of before (slice ∷ []))
    ∙ ap (map name_of) (sym (active_more slices at slice true there (ap is_active_state active)))

-- and no other slice has one
pub AreOfEachSlice-inactive : (slices : List Slice) (at : ℕ) (slice : Slice) (searchers : List Standing)
    → slice_get slices at ≡ Some slice → is_active slice ≡ false
    → AreOfEachSlice (take at slices) searchers → AreOfEachSlice (take (at + 1) slices) searchers
AreOfEachSlice-inactive slices at slice searchers there inactive so_far =
    let before : List Slice = filter is_active (take at slices) in
    so_far ∙ ap (map name_of) (sym (active_more slices at slice false there inactive ∙ append-nil before))

-- there are as many searchers as active slices
count_of_each : (slices : List Slice) (searchers : List Standing) → AreOfEachSlice slices searchers
    → length searchers ≡ length (filter is_active slices)
count_of_each slices searchers each =
    sym (length-map searchers (λ (s : Standing). s.slice)) ∙ ap (λ (ids : List SliceId). length ids) each
    ∙ length-map (filter is_active slices) name_of

-- so the slices before an active one have fewer than all
pub fewer-before_active : (slices : List Slice) (at : ℕ) (slice : Slice) (before all : List Standing)
    → slice_get slices at ≡ Some slice → slice.state ≡ states.Active → AreOfEachSlice (take at slices) before → AreOfEachSlice slices all
    → length before < length all
fewer-before_active slices at slice before all there active so_far each =
    let first : List Slice = filter is_active (take at slices) in
    let more : List Slice = filter is_active (take (at + 1) slices) in
    let rest : List Slice = filter is_active (drop (at + 1) slices) in
    omega (
      arith,
      count_of_each (take at slices) before so_far,
      count_of_each slices all each,
      ap (λ (these : List Slice). length (filter is_active these)) (sym (take-append-drop (at + 1) slices)),
      ap (λ (these : List Slice). length these) (filter-append is_active (take (at + 1) slices) (drop (at + 1) slices)),
      length-append more rest,
      ap (λ (these : List Slice). length these) (active_more slices at slice true there (ap is_active_state active)),
      length-append first (slice ∷ []),
    )

-- each active slice has a searcher
pub has_searcher : (slices : List Slice) (searchers : List Standing) (slice : Slice) → AreOfEachSlice slices searchers
    → Contains slices slice → slice.state ≡ states.Active → Contains (map slice_of searchers) slice.id
has_searcher slices searchers slice each there active =
    subst (λ (ids : List SliceId). Contains ids slice.id) (sym each)
    (Contains-map name_of (filter is_active slices) slice (Contains-filter is_active slices slice there (ap is_active_state active)))

-- so where a split is open its parent has one
pub IsSearched-in_phase : (b : Bucket) (phase : Phase) (searchers : List Standing) → IsInPhase b phase
    → AreOfEachSlice b.map searchers → HasParentSearcher phase searchers
IsSearched-in_phase b phase searchers in_phase each = by phase in_phase where
  of_parent : (parent : SliceId) → IsBeingSplit b.map parent → Contains (map slice_of searchers) parent
  of_parent parent (slice, same, splitting) =
      subst (Contains (map slice_of searchers)) same
      (has_searcher b.map searchers slice each splitting.there splitting.active)

  by : (one : Phase) → IsInPhase b one → HasParentSearcher one searchers
  by phases.Idle idle = tt
  by (phases.Building parent) is = of_parent parent is.split
  by (phases.Recovering parent) is = of_parent parent is.0.split

-- none of the slices of a part is active, nor is the next: so of one more
pub NoneIsActive-more : (slices : List Slice) (from at : ℕ) (slice : Slice) → from ≤ at → slice_get slices at ≡ Some slice
    → is_active slice ≡ false → NoneIsActive (drop from (take at slices)) → NoneIsActive (drop from (take (at + 1) slices))
NoneIsActive-more slices from at slice on there inactive none =
    let within = slice_get_within slices at slice there in
    let longer : take (at + 1) slices ≡ take at slices ++ slice ∷ [] =
    take_more slices at slice within ∙ ap (λ (s : Slice). take at slices ++ s ∷ []) (get_or_from_slice_get slices at slice slice there) in
    let short : from ≤ length (take at slices) = omega (arith, length-take at slices) in
    subst (λ (these : List Slice). NoneIsActive these)
    (sym (ap (drop from) longer ∙ drop-append-le from (take at slices) (slice ∷ []) short))
    (All-push (λ (s : Slice). is_active s ≡ false) (drop from (take at slices)) slice none inactive)

-- and where the part ends with the slices, of all from its beginning on
pub NoneIsActive-all : (slices : List Slice) (from at : ℕ) → length slices ≤ at → NoneIsActive (drop from (take at slices))
    → NoneIsActive (drop from slices)
NoneIsActive-all slices from at long none =
    subst (λ (these : List Slice). NoneIsActive (drop from these)) (take_all at slices long) none
