-- What the tests of the conditions of events say of a bucket.
use Rattle.std.proofs.Common.{◌≡◌, ◌≢◌, ◌↔◌, ◌∙◌, ℕ, nat_eq, ◌&&◌, ◌+◌, ◌*◌, ◌<◌, ◌≤◌, Bool, true, false, not, List, length, map, take, slice_get, Some, None, Option, All, Contains, MatchOption, IsTrue, is_some, IsSome, refl, sym, ap, subst, arith}
use Rattle.std.proofs.lemmas.List.{take_all}
use Rattle.std.proofs.lemmas.List.Elements.{All-push, All-contains, All-weaker, All-contains_itself}
use Rattle.std.specs.List.{range_with_len}
use Rattle.std.proofs.lemmas.List.FromFn.{length-range_with_len, get_or-range_with_len, map-range_with_len_more}
use Rattle.std.proofs.lemmas.Option.{same_Some}
use denote.Enum.Bare.{sameb}
use Rattle.sc_record.specs.declared.slice.SliceId.{SliceId}
use Rattle.sc_record.specs.declared.slice.CoreId.{CoreId}
use Rattle.sc_cluster.specs.contracts.slice.State as state_type
use Rattle.sc_cluster.specs.declared.slice.State.{State}
use Rattle.sc_cluster.specs.declared.slice.State.TheVariants as states
use Rattle.sc_cluster.specs.declared.slice.Slice.{Slice}
use Rattle.sc_cluster.specs.Map.{IsMap}
use Rattle.sc_cluster.specs.Changes.{IsInactive}
use Rattle.sc_cluster.proofs.LeaderLemmas.{same_from_id}
use Rattle.sc_journal.specs.Journal.{write_at, is_settled}
use Rattle.sc_journal.specs.Down.{follower_keys, IsFollower}
use Rattle.sc_journal.proofs.FollowerLemmas.{follower_is}
use Rattle.sc_journal.proofs.SettledLemmas.{unsettled_is, unsettled_from}
use Rattle.sc_cluster.specs.Slices.{is_forming}
use Rattle.sc_cluster.proofs.ListLemmas.{Contains-map}
use Rattle.sc_cluster.proofs.OrderLemmas.{same_from_rising_key}
use Rattle.sc_ulog.specs.declared.mode.Mode.{Mode}
use Rattle.sc_ulog.specs.contracts.mode.Mode as modes
use Rattle.sc_ulog.specs.declared.mode.Mode.TheVariants.{Active, Buffering, Replaying}
use Rattle.sc_replica.specs.Core.{Core}
use Rattle.sc_bucket.specs.Kept.{FeedState}
use Rattle.sc_record.specs.Names.{key_of_core, is_core}
use Rattle.sc_replicas.specs.Cores.{core_key, slice_keys, core_number, CoresAscend}
use Rattle.sc_bucket.specs.Pending.{is_feed_of}
use Rattle.sc_bucket.specs.Sound.{HasJournal, HasCores, AreLedActively}
use Rattle.sc_bucket.specs.declared.bucket.Bucket.{Bucket}
use Rattle.sc_replicas.proofs.CoreLemmas.{is_core-Decides, is_core-itself, IsCoreFound, element_from_map, IsLeaderOf-from_key}
use Rattle.sc_bucket.proofs.DownLemmas.{follower_key}
use Rattle.sc_replicas.proofs.FindLemmas.{take-next}
use Rattle.sc_bucket.proofs.TakenLemmas.{Contains-slice_get}
use Rattle.sc_handover.specs.Conditions.{IsInMode, IsUnfed, IsThereActive, CanFeed, CanGrow, CanSwitch}
use Rattle.sc_world.specs.Checks.{IsRecovering, IsLedActively, IsWholeSlice, MayJoin, IsMissing}

-- ---- lists
-- it is true of the first elements and the next
pub All-next : {A : Type 0} (P : A → Type 0) (xs : List A) (at : ℕ) (x : A) → slice_get xs at ≡ Some x → All P (take at xs) → P x
    → All P (take (at + 1) xs)
All-next P xs at x there all one = subst (All P) (sym (take-next xs at x there)) (All-push P (take at xs) x all one)

-- it is true of all
pub All-through : {A : Type 0} (P : A → Type 0) (xs : List A) (at : ℕ) → length xs ≤ at → All P (take at xs) → All P xs
All-through P xs at whole all = subst (All P) (take_all at xs whole) all

-- false is not true
false_is_not : {X : Type 0} → IsTrue false → X
false_is_not is = let both : false ≡ true = is in absurd (cc)

-- what fails of one element is not true of all
pub not_of_all : {A : Type 0} (P : A → Type 0) (xs : List A) (at : ℕ) (x : A) (test : Bool) → slice_get xs at ≡ Some x
    → IsTrue test ↔ P x → test ≡ false → IsTrue false ↔ All P xs
not_of_all P xs at x test there says fails = (
  λ is. false_is_not is,
  λ all. sym fails ∙ says.1 (All-contains P xs x all (Contains-slice_get xs at x there)),
)

-- ---- feeds
-- what a search for the feed of a core finds
abbrev pub IsFeedFound : Bucket → CoreId → Option ℕ → Type 0
IsFeedFound b core found =
    MatchOption found (All (λ (feed : FeedState). is_feed_of core feed ≡ false) b.feeds)
    (λ at. (feed : FeedState) × (slice_get b.feeds at ≡ Some feed) × (is_feed_of core feed ≡ true))

-- a core has a feed where one is found
pub fed_from_found : (b : Bucket) (core : CoreId) (found : Option ℕ) → IsFeedFound b core found → IsTrue (is_some found) ↔ CanFeed b core
fed_from_found b core None none = (λ is. false_is_not is, λ fed. none_is fed) where
  none_is : CanFeed b core → false ≡ true
  none_is (feed, there, named) =
      sym (All-contains (λ (feed : FeedState). is_feed_of core feed ≡ false) b.feeds feed none there)
      ∙ (is_core-Decides core feed.core).1 (sym named)
fed_from_found b core (Some at) (feed, there, passes) =
    (λ is. (feed, Contains-slice_get b.feeds at feed there, sym ((is_core-Decides core feed.core).0 passes)), λ fed. refl)

-- and has none where none is
pub unfed_from_found : (b : Bucket) (core : CoreId) (found : Option ℕ) → IsFeedFound b core found
    → IsTrue (not (is_some found)) ↔ IsUnfed b core
unfed_from_found b core None none = (λ is. none, λ unfed. refl)
unfed_from_found b core (Some at) (feed, there, passes) =
    (λ is. false_is_not is, λ unfed. sym (All-contains (λ (f : FeedState). is_feed_of core f ≡ false) b.feeds feed unfed (Contains-slice_get b.feeds at feed there)) ∙ passes)

-- ---- modes
-- two cores of one number are one
pub same_from_number : (cores : List Core) (one other : Core) → CoresAscend cores → Contains cores one → Contains cores other
    → core_number one.core ≡ core_number other.core → one ≡ other
same_from_number cores one other ascend here there same =
    same_from_rising_key (λ (core : Core). core_number core.core) cores one other ascend here there same

-- the core that is found is in the mode where the core of the name is
pub in_mode_where_found : (b : Bucket) (name : CoreId) (mode : Mode) (at : ℕ) (core : Core) (test : Bool) → CoresAscend b.replicas
    → IsCoreFound b.replicas name (Some at) → slice_get b.replicas at ≡ Some core → IsTrue test ↔ (core.mode ≡ mode)
    → IsTrue test ↔ IsInMode b name mode
in_mode_where_found b name mode at core test ascend (found, found_there, passes) there says =
    let named : name ≡ core.core =
    (is_core-Decides name found.core).0 passes ∙ ap (λ (c : Core). c.core) (same_Some found core (sym found_there ∙ there)) in
    let here : Contains b.replicas core = Contains-slice_get b.replicas at core there in
    (λ is. (core, here, sym named, says.0 is), λ is. back named here is)
  where
    back : name ≡ core.core → Contains b.replicas core → IsInMode b name mode → IsTrue test
    back named here (other, other_there, other_named, in_mode) =
        let same : other ≡ core =
        same_from_number b.replicas other core ascend other_there here (ap core_number (other_named ∙ named)) in
        says.1 (ap (λ (c : Core). c.mode) (sym same) ∙ in_mode)

-- no core is in a mode where none is found
pub in_mode_where_none : (b : Bucket) (name : CoreId) (mode : Mode) → IsCoreFound b.replicas name None → IsTrue false ↔ IsInMode b name mode
in_mode_where_none b name mode none = (λ is. false_is_not is, back) where
  back : IsInMode b name mode → false ≡ true
  back (core, there, named, in_mode) =
      sym (All-contains (λ (other : Core). is_core name other.core ≡ false) b.replicas core none there)
      ∙ (is_core-Decides name core.core).1 (sym named)

-- a core of these parts is active where the core of the name is
pub there_active : (b : Bucket) (name : CoreId) (test : Bool) → IsTrue test ↔ IsInMode b name Active
    → IsTrue test ↔ IsThereActive b (name.slice.0, name.replica)
there_active b name test says = (λ is. forth (says.0 is), λ is. says.1 (back is)) where
  forth : IsInMode b name Active → IsThereActive b (name.slice.0, name.replica)
  forth (core, there, named, active) = (core, there, ap (λ (n : CoreId). (n.slice.0, n.replica)) named, active)

  back : IsThereActive b (name.slice.0, name.replica) → IsInMode b name Active
  back (core, there, keyed, active) =
      let passes : is_core name core.core ≡ true =
      subst (λ (key : ℕ × ℕ). (nat_eq name.slice.0 key.0 && nat_eq name.replica key.1) ≡ true) (sym keyed) (is_core-itself name) in
      (core, there, sym ((is_core-Decides name core.core).0 passes), active)

-- the leaders of the slices that a split is making are active where each such slice's is
pub led_actively : (b : Bucket) (test : Bool) → HasCores b → IsTrue test ↔ All (IsLedActively b) b.map → IsTrue test ↔ AreLedActively b
led_actively b test cores says = (λ is. forth (says.0 is), λ led. says.1 (back led)) where
  LeadsActively : Core → Type 0
  LeadsActively core = (slice : Slice) → Contains b.map slice → slice.id ≡ core.core.slice → is_forming slice ≡ true
      → core.core.replica ≡ 1 → core.mode ≡ Active

  forth : All (IsLedActively b) b.map → AreLedActively b
  forth all = All-weaker (Contains b.replicas) LeadsActively active b.replicas (All-contains_itself b.replicas) where
    active : (core : Core) → Contains b.replicas core → LeadsActively core
    active core there slice slice_there of_slice forming first =
        by (All-contains (IsLedActively b) b.map slice all slice_there forming) where
          by : IsThereActive b (slice.id.0, 1) → core.mode ≡ Active
          by (other, other_there, keyed, in_mode) =
              let number : core_number other.core ≡ slice.id.0 * 256 + 1 = ap (λ (key : ℕ × ℕ). key.0 * 256 + key.1) keyed in
              let alike : slice.id.0 * 256 + 1 ≡ core_number core.core =
              ap (λ (id : SliceId). id.0 * 256 + 1) of_slice ∙ ap (λ replica. core.core.slice.0 * 256 + replica) (sym first) in
              let same : other ≡ core = same_from_number b.replicas other core cores.ascend other_there there (number ∙ alike) in
              ap (λ (c : Core). c.mode) (sym same) ∙ in_mode

  back : AreLedActively b → All (IsLedActively b) b.map
  back led = All-weaker (Contains b.map) (IsLedActively b) is_led b.map (All-contains_itself b.map) where
    is_led : (slice : Slice) → Contains b.map slice → IsLedActively b slice
    is_led slice there forming =
        let leader = All-contains (λ (s : Slice). Contains (map core_key b.replicas) (s.id.0, 1)) b.map slice cores.leaders there in
        let (k, core, at, keyed) = element_from_map core_key b.replicas (slice.id.0, 1) leader in
        let leads = IsLeaderOf-from_key slice.id core keyed in
        let here = Contains-slice_get b.replicas k core at in
        (core, here, keyed, All-contains LeadsActively b.replicas core led here slice there (sym leads.0) forming leads.1)

-- ---- the replicas of a slice
-- the names of its first replicas
abbrev pub keys_to : Slice → ℕ → List (ℕ × ℕ)
keys_to slice below = map (λ (replica : ℕ). (slice.id.0, replica)) (range_with_len 1 below)

-- one more is there and active
pub active-next : (b : Bucket) (slice : Slice) (below : ℕ) → All (IsThereActive b) (keys_to slice below)
    → IsThereActive b (slice.id.0, below + 1) → All (IsThereActive b) (keys_to slice (below + 1))
active-next b slice below so_far one =
    subst (All (IsThereActive b)) (sym (map-range_with_len_more (λ (replica : ℕ). (slice.id.0, replica)) 1 below (below + 1) (omega arith)))
    (All-push (IsThereActive b) (keys_to slice below) (slice.id.0, below + 1) so_far one)

-- all are
pub all_keys : (b : Bucket) (slice : Slice) (below : ℕ) → below ≤ slice.replicas → slice.replicas ≤ below
    → All (IsThereActive b) (keys_to slice below) → IsTrue true ↔ All (IsThereActive b) (slice_keys slice)
all_keys b slice below most least all =
    let every : below ≡ slice.replicas = omega arith in
    (λ is. subst (λ n. All (IsThereActive b) (keys_to slice n)) every all, λ whole. refl)

-- one isn't
pub not_of_all_keys : (b : Bucket) (slice : Slice) (below : ℕ) (test : Bool) → below < slice.replicas
    → IsTrue test ↔ IsThereActive b (slice.id.0, below + 1) → test ≡ false → IsTrue false ↔ All (IsThereActive b) (slice_keys slice)
not_of_all_keys b slice below test within says fails =
    let key : Contains (slice_keys slice) (slice.id.0, below + 1) =
    Contains-map (λ (replica : ℕ). (slice.id.0, replica)) (range_with_len 1 slice.replicas) (below + 1)
    (below, omega (arith, length-range_with_len 1 slice.replicas), get_or-range_with_len 1 slice.replicas below (below + 1) within ∙ omega arith) in
    (λ is. false_is_not is, λ all. sym fails ∙ says.1 (All-contains (IsThereActive b) (slice_keys slice) (slice.id.0, below + 1) all key))

-- ---- equal states
pub mode_test : (one other : Mode) → IsTrue (sameb modes.the_type one other) ↔ (one ≡ other)
mode_test Active Active = (λ is. refl, λ same. refl)
mode_test Active Buffering = (λ is. cc, λ same. cc)
mode_test Active Replaying = (λ is. cc, λ same. cc)
mode_test Buffering Active = (λ is. cc, λ same. cc)
mode_test Buffering Buffering = (λ is. refl, λ same. refl)
mode_test Buffering Replaying = (λ is. cc, λ same. cc)
mode_test Replaying Active = (λ is. cc, λ same. cc)
mode_test Replaying Buffering = (λ is. cc, λ same. cc)
mode_test Replaying Replaying = (λ is. refl, λ same. refl)

pub inactive_test : (state : State) → IsTrue (sameb state_type.the_type state states.Inactive) ↔ (state ≡ states.Inactive)
inactive_test states.Active = (λ is. cc, λ same. cc)
inactive_test states.Inactive = (λ is. refl, λ same. refl)
inactive_test states.Construction = (λ is. cc, λ same. cc)
inactive_test states.Recovery = (λ is. cc, λ same. cc)

-- ---- slices by their ids
-- what a search for the slice of an id finds
abbrev pub IsSliceFound : Bucket → SliceId → Slice → Type 0
IsSliceFound b id slice = Contains b.map slice × (slice.id ≡ id)

-- the slice of the id is inactive where the one that is found is
pub inactive_where_found : (b : Bucket) (id : SliceId) (slice : Slice) (test : Bool) → IsMap b.map → IsSliceFound b id slice
    → IsTrue test ↔ (slice.state ≡ states.Inactive) → IsTrue test ↔ IsInactive b.map id
inactive_where_found b id slice test is_map (there, named) says = (λ is. (slice, there, named, says.0 is), back) where
  back : IsInactive b.map id → IsTrue test
  back (other, other_there, other_named, inactive) =
      says.1 (ap (λ (s : Slice). s.state) (same_from_id b.map slice other is_map there other_there (named ∙ sym other_named)) ∙ inactive)

-- a core that may join is missing where no core of its name is found
pub missing_where_joins : (b : Bucket) (name : CoreId) (slice : Slice) (found : Option ℕ) → IsSliceFound b name.slice slice
    → MayJoin slice name.replica → IsCoreFound b.replicas name found
    → IsTrue (not (is_some found)) ↔ ((sub : Slice) × IsMissing b name sub)
missing_where_joins b name slice None (there, named) joins none =
    (λ is. (slice, record { there = there; of_sub = sym named; joins = joins; missing = none }), λ missing. refl)
missing_where_joins b name slice (Some at) (there, named) joins (core, core_there, passes) = (λ is. false_is_not is, back) where
  back : ((sub : Slice) × IsMissing b name sub) → false ≡ true
  back (sub, missing) =
      sym (All-contains (λ (other : Core). is_core name other.core ≡ false) b.replicas core missing.missing
      (Contains-slice_get b.replicas at core core_there)) ∙ passes

-- a core that may not join isn't
pub not_missing : (b : Bucket) (name : CoreId) (slice : Slice) (test : Bool) → IsMap b.map → IsSliceFound b name.slice slice
    → IsTrue test ↔ MayJoin slice name.replica → test ≡ false → IsTrue test ↔ ((sub : Slice) × IsMissing b name sub)
not_missing b name slice test is_map (there, named) says fails = (λ is. false_is_not (sym fails ∙ is), back) where
  back : ((sub : Slice) × IsMissing b name sub) → IsTrue test
  back (sub, missing) =
      let same : sub ≡ slice = same_from_id b.map sub slice is_map missing.there there (sym missing.of_sub ∙ sym named) in
      says.1 (subst (λ (s : Slice). MayJoin s name.replica) same missing.joins)

-- ---- followers
-- the core is a follower where the slice that is found is active and has a replica of its number
pub follower_where_found : (b : Bucket) (name : CoreId) (slice : Slice) (test : Bool) → IsMap b.map → IsSliceFound b name.slice slice
    → IsTrue test ↔ ((slice.state ≡ states.Active) × (1 < name.replica) × (name.replica ≤ slice.replicas))
    → IsTrue test ↔ IsFollower b.map name
follower_where_found b name slice test is_map (there, named) says = (forth, back) where
  forth : IsTrue test → IsFollower b.map name
  forth is =
      let (active, least, most) = says.0 is in (
        slice,
        there,
        active,
        subst (λ (id : SliceId). Contains (follower_keys slice) (id.0, name.replica)) named (follower_key slice name.replica least most),
      )

  back : IsFollower b.map name → IsTrue test
  back (other, other_there, active, follower) =
      let (of_slice, least, most) = follower_is other (key_of_core name) follower in
      let same : slice ≡ other = same_from_id b.map slice other is_map there other_there
      (named ∙ ap (λ (n : ℕ). record { 0 = n }) of_slice) in
      says.1 (ap (λ (s : Slice). s.state) same ∙ active, omega (arith, least), omega (arith, most, ap (λ (s : Slice). s.replicas) same))

-- and is none where its slice is not there
pub no_follower : (b : Bucket) (name : CoreId) → All (λ (slice : Slice). slice.id ≢ name.slice) b.map → IsTrue false ↔ IsFollower b.map name
no_follower b name none = (λ is. false_is_not is, back) where
  back : IsFollower b.map name → false ≡ true
  back (other, there, active, follower) =
      let of_slice = (follower_is other (key_of_core name) follower).0 in
      absurd (All-contains (λ (slice : Slice). slice.id ≢ name.slice) b.map other none there
      (ap (λ (n : ℕ). record { 0 = n }) (sym of_slice)))

-- ---- the conditions of events
-- the place of an unsettled write is kept
pub settle_test : (b : Bucket) (place : ℕ) (test : Bool) → HasJournal b → IsTrue test ↔ Contains b.unsettled.places place
    → IsTrue test ↔ (IsSome (write_at b.journal.entries place) × (is_settled b.journal.entries place ≡ false))
settle_test b place test journal says = (
  λ is. unsettled_is b.journal.entries place (subst (λ places. Contains places place) journal.unsettled_are (says.0 is)),
  λ may. says.1 (subst (λ places. Contains places place) (sym journal.unsettled_are) (unsettled_from b.journal.entries place may.0 may.1)),
)

-- while further replicas join
pub grow_test : (b : Bucket) (name : CoreId) (test : Bool) → IsRecovering b → IsTrue test ↔ ((sub : Slice) × IsMissing b name sub)
    → IsTrue test ↔ ((sub : Slice) × CanGrow b name sub)
grow_test b name test (parent, recovering) says = (λ is. forth (says.0 is), λ grows. says.1 (back grows)) where
  forth : ((sub : Slice) × IsMissing b name sub) → (sub : Slice) × CanGrow b name sub
  forth (sub, missing) = (
    sub,
    record {
      parent = parent;
      recovering = recovering;
      there = missing.there;
      forming = missing.joins.0;
      of_sub = missing.of_sub;
      above = missing.joins.1;
      planned = missing.joins.2;
      missing = missing.missing;
    },
  )

  back : ((sub : Slice) × CanGrow b name sub) → (sub : Slice) × IsMissing b name sub
  back (sub, grows) =
      (sub, record { there = grows.there; of_sub = grows.of_sub; joins = (grows.forming, grows.above, grows.planned); missing = grows.missing })

pub switch_test : (b : Bucket) (test : Bool) → IsRecovering b → IsTrue test ↔ All (IsWholeSlice b) b.map
    → IsTrue test ↔ ((parent : SliceId) × CanSwitch b parent)
switch_test b test (parent, recovering) says = (
  λ is. (parent, record { recovering = recovering; whole = says.0 is }),
  λ can. says.1 can.1.whole,
)
