-- What the next step of a split asks of a bucket's part follows from the stage that it has come to.
use Rattle.std.proofs.Common.{◌≡◌, ◌<◌, ◌≤◌, ℕ, Bool, true, false, List, map, All, Contains, refl, sym, ap, ◌∙◌, subst}
use Rattle.std.specs.List.{IsDistinct}
use Rattle.std.proofs.lemmas.List.Elements.{All-weaker, All-contains, All-contains_itself}
use Rattle.std.proofs.lemmas.Simd.{map-map}
use Rattle.sc_record.specs.Names.{is_core, key_of_core}
use Rattle.sc_record.specs.declared.slice.SliceId.{SliceId}
use Rattle.sc_record.specs.declared.slice.CoreId.{CoreId}
use Rattle.sc_cluster.specs.declared.slice.Slice.{Slice}
use Rattle.sc_cluster.specs.declared.plan.SplitPlan.{SplitPlan}
use Rattle.sc_cluster.specs.Slices.{is_forming, forming}
use Rattle.sc_cluster.specs.Changes.{begun_slice}
use Rattle.sc_cluster.proofs.ListLemmas.{Contains-map, Contains-filter}
use Rattle.sc_cluster.proofs.PairLemmas.{Contains-from_map}
use Rattle.sc_cluster.proofs.StateLemmas.{forming-begun}
use Rattle.sc_ulog.specs.declared.mode.Mode.TheVariants.{Active}
use Rattle.sc_replicas.specs.Cores.{is_of_one, slice_keys}
use Rattle.sc_bucket.specs.declared.phase.Phase.TheVariants as phases
use Rattle.sc_replicas.proofs.CoreLemmas.{is_core-Decides}
use Rattle.sc_handover.specs.Made.{first_core}
use Rattle.sc_handover.proofs.KeptLemmas.{is_of_one-there}
use Rattle.sc_keeper.specs.declared.part.CorePart.{CorePart}
use Rattle.sc_keeper.specs.declared.part.FeedPart.{FeedPart}
use Rattle.sc_keeper.specs.declared.part.Part.{Part}
use Rattle.sc_keeper.specs.Conditions.{IsActiveAt, MayBeReady, MayGrow, MaySwitch}
use Rattle.sc_keeper.specs.Events.{PartGetsReady}
use Rattle.sc_split.specs.Buckets.{core_names, mode_among, seat_of, IsToFill, IsFilled, HasSubCores, KeepsSeats, IsUnderway, first_cores}
use Rattle.sc_split.proofs.ModeLemmas.{core_name}
use Rattle.sc_split.proofs.ReplayLemmas.{core_there}

-- cores that keep their seats keep their names
pub names-seats : (old new : Part) → KeepsSeats old new → core_names new ≡ core_names old
names-seats old new keeps =
    sym (map-map (λ (seat : CoreId × ℕ). seat.0) seat_of new.cores) ∙ ap (map (λ (seat : CoreId × ℕ). seat.0)) keeps.seats
    ∙ map-map (λ (seat : CoreId × ℕ). seat.0) seat_of old.cores

-- the same cores of the subs are there where the map and the names are the same
pub sub_cores-same : (old new : Part) (names : List CoreId) → new.map ≡ old.map → core_names new ≡ core_names old
    → HasSubCores old names → HasSubCores new names
sub_cores-same old new names slices same has = record {
  there = subst (λ here. All (Contains here) names) (sym same) has.there;
  no_other = subst (λ here. All (λ (name : CoreId). is_of_one (forming new.map) name ≡ true → Contains names name) here) (sym same)
      (subst (λ now. All (λ (name : CoreId). is_of_one (forming now) name ≡ true → Contains names name) (core_names old))
      (sym slices) has.no_other);
}

-- once cores were filled
pub sub_cores-seats : (old new : Part) (names : List CoreId) → KeepsSeats old new → HasSubCores old names → HasSubCores new names
sub_cores-seats old new names keeps = sub_cores-same old new names keeps.rest.map_is (names-seats old new keeps)

-- once the leaders are made
pub sub_cores-ready : (old new : Part) (parent : SliceId) (names : List CoreId) → PartGetsReady old parent new
    → HasSubCores old names → HasSubCores new names
sub_cores-ready old new parent names ready = sub_cores-same old new names ready.map_is (ap (map core_name) ready.cores_are)

-- and the same cores are to be filled
pub to_fill-ready : (old new : Part) (parent : SliceId) (names : List CoreId) → PartGetsReady old parent new → IsToFill old names
    → IsToFill new names
to_fill-ready old new parent names ready to_fill = record {
  cores = record {
    apart = subst (IsDistinct is_core) (sym same) to_fill.cores.apart;
    once = to_fill.cores.once;
    there = subst (λ here. All (Contains here) names) (sym same) to_fill.cores.there;
    modes = subst (All (λ (core : CorePart). core.mode ≡ mode_among names core.name)) (sym ready.cores_are) to_fill.cores.modes;
  };
  fed = ap (map (λ (feed : FeedPart). feed.core)) ready.feeds_are ∙ to_fill.fed;
} where
  same : core_names new ≡ core_names old
  same = ap (map core_name) ready.cores_are

-- where all are filled, a core that is there is active
pub active_at : (part : Part) (names : List CoreId) (name : CoreId) → IsFilled part → HasSubCores part names → Contains names name
    → IsActiveAt part (key_of_core name)
active_at part names name filled has inside =
    let found = core_there (λ (core : CorePart). core.mode ≡ Active) part name
    (All-contains (Contains (core_names part)) names name has.there inside) filled.cores.modes in
    (found.0, found.1, ap key_of_core found.2, found.3)

-- the leaders of the subs are made once each is filled
pub may_be_ready : (base part : Part) (plan : SplitPlan) → IsUnderway base plan part → part.phase ≡ phases.Building plan.parent
    → IsFilled part
    → HasSubCores part (first_cores plan.subs) → MayBeReady part plan.parent
may_be_ready base part plan underway building filled has = record {
  building = building;
  led = All-weaker (Contains part.map) IsLed each part.map (All-contains_itself part.map);
} where
  IsLed : Slice → Type 0
  IsLed sub = is_forming sub ≡ true → IsActiveAt part (sub.id.0, 1)

  each : (sub : Slice) → Contains part.map sub → IsLed sub
  each sub there is_sub =
      let now : forming part.map ≡ map begun_slice plan.subs =
      ap forming underway.map_is ∙ forming-begun base.map plan.subs underway.planned.idle in
      let inside : Contains (map begun_slice plan.subs) sub =
      subst (λ slices. Contains slices sub) now (Contains-filter is_forming part.map sub there is_sub) in
      let (planned, begun, is) = Contains-from_map begun_slice plan.subs sub inside in
      subst (λ (s : Slice). IsActiveAt part (s.id.0, 1)) is
      (active_at part (first_cores plan.subs) (first_core planned) filled has (Contains-map first_core plan.subs planned begun))

-- a further replica of a sub that is not there may join
pub may_grow : (part : Part) (names : List CoreId) (name : CoreId) (sub : Slice) (parent : SliceId) → part.phase ≡ phases.Recovering parent
    → Contains part.map sub → is_forming sub ≡ true → name.slice ≡ sub.id → 1 < name.replica → name.replica ≤ sub.replicas
    → HasSubCores part names → (Contains names name → ⊥) → MayGrow part name sub
may_grow part names name sub parent recovering there is_sub of_sub above planned has missing = record {
  parent = parent;
  recovering = recovering;
  there = there;
  forming = is_sub;
  of_sub = of_sub;
  above = above;
  planned = planned;
  missing = All-weaker (Contains part.cores) (λ (core : CorePart). is_core name core.name ≡ false) each part.cores
      (All-contains_itself part.cores);
} where
  each : (core : CorePart) → Contains part.cores core → is_core name core.name ≡ false
  each core inside = by (is_core name core.name) refl where
    by : (b : Bool) → is_core name core.name ≡ b → is_core name core.name ≡ false
    by false is = is
    by true is =
        let same : name ≡ core.name = (is_core-Decides name core.name).0 is in
        let of_one : is_of_one (forming part.map) core.name ≡ true =
        is_of_one-there (forming part.map) sub core.name (Contains-filter is_forming part.map sub there is_sub)
        (sym of_sub ∙ ap (λ (one : CoreId). one.slice) same) in
        let here : Contains names core.name =
        All-contains (λ (one : CoreId). is_of_one (forming part.map) one ≡ true → Contains names one)
        (core_names part) core.name has.no_other
        (Contains-map core_name part.cores core inside) of_one in
        absurd (missing (subst (Contains names) (sym same) here))

-- where all replicas of all subs are there and are filled, the subs may take their parent's place
pub may_switch : (part : Part) (names : List CoreId) (parent : SliceId) → part.phase ≡ phases.Recovering parent → IsFilled part
    → HasSubCores part names
    → ((sub : Slice) (key : ℕ × ℕ) → Contains part.map sub → is_forming sub ≡ true → Contains (slice_keys sub) key
    → (name : CoreId) × Contains names name × (key_of_core name ≡ key)) → MaySwitch part parent
may_switch part names parent recovering filled has whole = record {
  recovering = recovering;
  whole = All-weaker (Contains part.map) (λ (sub : Slice). is_forming sub ≡ true → All (IsActiveAt part) (slice_keys sub)) each part.map
      (All-contains_itself part.map);
} where
  each : (sub : Slice) → Contains part.map sub → is_forming sub ≡ true → All (IsActiveAt part) (slice_keys sub)
  each sub there is_sub =
      All-weaker (Contains (slice_keys sub)) (IsActiveAt part)
      (λ key inside. let (name, named, is) = whole sub key there is_sub inside in
      subst (IsActiveAt part) is (active_at part names name filled has named)) (slice_keys sub) (All-contains_itself (slice_keys sub))
