-- The slice of each core, and the cores of the subs as a switch finds them: each is active, so none is fed.
use Rattle.std.proofs.Common.{◌≡◌, ◌≢◌, Bool, true, false, not, ◌&&◌, IsTrue, ℕ, nat_eq, List, [], map, Option, Some, None, Bor, MatchOption, All, Contains, refl, sym, ap, ◌∙◌, subst}
use Rattle.std.proofs.lemmas.Bool.{false_from_ne_true}
use Rattle.std.specs.List.{range_with_len}
use Rattle.std.proofs.lemmas.Bool.Decides.{Decides-eqb}
use Rattle.std.proofs.lemmas.List.Elements.{All-contains, All-weaker, All-contains_itself}
use Rattle.std.proofs.lemmas.List.Folds.{list_any_none}
use Rattle.sc_record.specs.declared.slice.SliceId.{SliceId}
use Rattle.sc_record.specs.declared.slice.CoreId.{CoreId}
use Rattle.sc_cluster.specs.declared.slice.State.{State}
use Rattle.sc_cluster.specs.declared.slice.State.TheVariants as states
use Rattle.sc_cluster.specs.declared.slice.Slice.{Slice}
use Rattle.sc_cluster.specs.Map.{IsMap}
use Rattle.sc_cluster.specs.Slices.{is_forming_state, is_forming, forming, is_inactive_state, is_inactive}
use Rattle.sc_cluster.proofs.LeaderLemmas.{same_from_id}
use Rattle.sc_cluster.proofs.ListLemmas.{Contains-map, Contains-filter, Contains-from_filter}
use Rattle.sc_cluster.proofs.PairLemmas.{Contains-from_map}
use Rattle.sc_ulog.specs.declared.mode.Mode.{Mode}
use Rattle.sc_ulog.specs.declared.mode.Mode.TheVariants.{Active, Buffering}
use Rattle.sc_replica.specs.Core.{Core}
use Rattle.sc_journal.proofs.LegalDownLemmas.{forming_is_up}
use Rattle.sc_replicas.specs.Cores.{core_key, core_keys, slice_keys, is_attached}
use Rattle.sc_bucket.specs.Sound.{IsMarked, is_idle, may_catch_up, IsFeed, IsSound}
use Rattle.sc_bucket.specs.declared.bucket.Bucket.{Bucket}
use Rattle.sc_bucket.proofs.AcceptLemmas.{bucket_has_map}
use Rattle.sc_bucket.proofs.SoundLemmas.{AreAlike, name_and_mode}
use Rattle.sc_handover.proofs.NoFeedLemmas.{none_where}
use Rattle.sc_bucket.proofs.CatchUpLemmas.{only_forming}
use Rattle.sc_handover.proofs.KeptLemmas.{is_of_one-there, slice_of_key}
use Rattle.sc_handover.specs.Conditions.{IsThereActive, CanSwitch}
use Rattle.sc_handover.specs.Parts.{is_of_sub}
use Rattle.sc_handover.proofs.LastWriteLemmas.{same_from_key}

-- a slice that a split is making is not inactive
pub not_inactive : (slice : Slice) → is_forming slice ≡ true → not (is_inactive slice) ≡ true
not_inactive slice = by slice.state where
  by : (state : State) → is_forming_state state ≡ true → not (is_inactive_state state) ≡ true
  by states.Active is = refl
  by states.Inactive is = absurd (cc)
  by states.Construction is = refl
  by states.Recovery is = refl

-- and none of its cores is down, so that each takes part in what is written
pub attached_where_forming : (b : Bucket) (slice : Slice) (core : Core) → IsSound b → Contains b.map slice
    → slice.id ≡ core.core.slice → is_forming slice ≡ true → Contains b.replicas core → IsTrue (is_attached slice core)
attached_where_forming b slice core sound in_map named forms there =
    let journal = sound.journal in
    let up : core.down ≡ false =
    (All-contains (IsMarked b.journal.entries) b.replicas core sound.cores.marked there).down
    ∙ forming_is_up b.first b.journal.entries slice (core_key core) journal.legal
    (subst IsMap journal.map_is (bucket_has_map b journal))
    (subst (λ (slices : List Slice). Contains slices slice) journal.map_is in_map) forms
    (ap (λ (id : SliceId). id.0) (sym named)) in
    ap (λ t. t && not core.down) (not_inactive slice forms) ∙ ap not up

-- each core is of a slice of the map, and its name is one of that slice's
pub slice_of_core : (b : Bucket) (core : Core) → IsSound b → Contains b.replicas core
    → (slice : Slice) × Contains b.map slice × (slice.id ≡ core.core.slice) × Contains (slice_keys slice) (core_key core)
slice_of_core b core sound there =
    let key = All-contains (Contains (core_keys b.map)) (map core_key b.replicas) (core_key core) sound.cores.of_map
    (Contains-map core_key b.replicas core there) in
    let (slice, in_map, here) = slice_of_key b.map (core_key core) key in
    let (replica, within, is) =
    Contains-from_map (λ (n : ℕ). (slice.id.0, n)) (range_with_len 1 slice.replicas) (core_key core) here in
    let make : ℕ × ℕ → SliceId = λ key. record { 0 = key.0 } in
    (slice, in_map, ap make is, here)

-- where a switch may come each core is active
pub all_are_active : (b : Bucket) (parent : SliceId) (core : Core) → IsSound b → CanSwitch b parent
    → Contains b.replicas core → core.mode ≡ Active
all_are_active b parent core sound can there =
    let (slice, in_map, named, key) = slice_of_core b core sound there in
    by slice in_map named key (is_forming slice) refl
  where
    by : (slice : Slice) → Contains b.map slice → slice.id ≡ core.core.slice → Contains (slice_keys slice) (core_key core)
        → (t : Bool) → is_forming slice ≡ t → core.mode ≡ Active
    by slice in_map named key false is =
        All-contains (λ (c : Core). (s : Slice) → Contains b.map s → s.id ≡ c.core.slice
        → may_catch_up b.phase s c.core ≡ false → c.mode ≡ Active)
        b.replicas core sound.cores.active there slice in_map named
        (only_forming b.phase slice core.core (ap is_idle can.recovering) ∙ is)
    by slice in_map named key true is =
        let each = All-contains (λ (s : Slice). is_forming s ≡ true → All (IsThereActive b) (slice_keys s)) b.map slice can.whole in_map is in
        let (other, other_there, same, active) = All-contains (IsThereActive b) (slice_keys slice) (core_key core) each key in
        ap (λ (c : Core). c.mode) (sym (same_from_key b.replicas other core sound.cores.ascend other_there there same)) ∙ active

-- so nothing is fed
pub none_is_fed : (b : Bucket) (parent : SliceId) → IsSound b → CanSwitch b parent → b.feeds ≡ []
none_is_fed b parent sound can =
    none_where (IsFeed b) (λ feed is.
    let active : is.core.mode ≡ Active = all_are_active b parent is.core sound can is.core_there in
    let both : Buffering ≡ Active = sym is.buffering ∙ active in
    cc) b.feeds sound.feeds.each

-- a switch may come still where the map, the phase, and the names and modes of the cores stay
pub CanSwitch-alike : (old new : Bucket) (parent : SliceId) → new.phase ≡ old.phase → new.map ≡ old.map
    → AreAlike old.replicas new.replicas → CanSwitch old parent → CanSwitch new parent
CanSwitch-alike old new parent same_phase same_map alike can = record {
  recovering = same_phase ∙ can.recovering;
  whole = subst (All Whole) (sym same_map)
      (All-weaker (λ (sub : Slice). is_forming sub ≡ true → All (IsThereActive old) (slice_keys sub)) Whole
      (λ sub each is. All-weaker (IsThereActive old) (IsThereActive new) still (slice_keys sub) (each is)) old.map can.whole);
} where
  Whole : Slice → Type 0
  Whole sub = is_forming sub ≡ true → All (IsThereActive new) (slice_keys sub)

  still : (key : ℕ × ℕ) → IsThereActive old key → IsThereActive new key
  still key (core, there, is, active) =
      let pair = subst (λ pairs. Contains pairs (name_and_mode core)) (sym alike) (Contains-map name_and_mode old.replicas core there) in
      let (other, other_there, same) = Contains-from_map name_and_mode new.replicas (name_and_mode core) pair in
      let key_of : CoreId × Mode → ℕ × ℕ = λ pair. (pair.0.slice.0, pair.0.replica) in
      (other, other_there, ap key_of same ∙ is, ap (λ (pair : CoreId × Mode). pair.1) same ∙ active)

-- a core is of a sub where the slice of its id is one
pub of_sub_where_forming : (slices : List Slice) (core : CoreId) (slice : Slice) → Contains slices slice
    → slice.id ≡ core.slice → is_forming slice ≡ true → is_of_sub slices core ≡ true
of_sub_where_forming slices core slice there named is =
    is_of_one-there (forming slices) slice core (Contains-filter is_forming slices slice there is) named

-- and of none where no sub has that id
none_has_id : (slices : List Slice) (core : CoreId)
    → ((slice : Slice) → Contains slices slice → is_forming slice ≡ true → slice.id ≢ core.slice)
    → is_of_sub slices core ≡ false
none_has_id slices core other =
    list_any_none (λ (s : Slice). nat_eq s.id.0 core.slice.0) (forming slices)
    (All-weaker (Contains (forming slices)) (λ (s : Slice). nat_eq s.id.0 core.slice.0 ≡ false) differ (forming slices)
    (All-contains_itself (forming slices)))
  where
    differ : (slice : Slice) → Contains (forming slices) slice → nat_eq slice.id.0 core.slice.0 ≡ false
    differ slice there =
        let (inside, is) = Contains-from_filter is_forming slices slice there in
        false_from_ne_true (nat_eq slice.id.0 core.slice.0)
        (λ same. other slice inside is (ap (λ (n : ℕ). record { 0 = n }) ((Decides-eqb slice.id.0 core.slice.0).0 same)))

-- what a search for the slice of an id says of it
abbrev pub IsFoundById : List Slice → SliceId → Option (Bor Slice) → Type 0
IsFoundById slices id found =
    MatchOption found (All (λ (slice : Slice). slice.id ≢ id) slices)
    (λ slice. Contains slices slice.now × (slice.now.id ≡ id))

-- so what is found is the slice of that id
pub found_by_id : (slices : List Slice) (id : SliceId) (found : Option (Bor Slice)) (slice : Bor Slice) (one : Slice)
    → IsMap slices → IsFoundById slices id found → found ≡ Some slice → Contains slices one → one.id ≡ id → slice.now ≡ one
found_by_id slices id found slice one is_map is same there named =
    let here = subst (IsFoundById slices id) same is in
    same_from_id slices slice.now one is_map here.0 there (here.1 ∙ sym named)

-- what a search for the slice of a core's id says of it
abbrev pub IsSliceFound : List Slice → CoreId → Option (Bor Slice) → Type 0
IsSliceFound slices core found = IsFoundById slices core.slice found

pub of_sub-found : (slices : List Slice) (core : CoreId) (found : Option (Bor Slice)) (slice : Bor Slice) → IsMap slices
    → IsSliceFound slices core found → found ≡ Some slice → is_forming slice.now ≡ is_of_sub slices core
of_sub-found slices core found slice is_map is same =
    let here = subst (IsSliceFound slices core) same is in
    by here.0 here.1 (is_forming slice.now) refl
  where
    by : Contains slices slice.now → slice.now.id ≡ core.slice → (t : Bool) → is_forming slice.now ≡ t
        → is_forming slice.now ≡ is_of_sub slices core
    by there named true forms = forms ∙ sym (of_sub_where_forming slices core slice.now there named forms)
    by there named false settled = settled ∙ sym (none_has_id slices core (λ other inside forms alike.
        let one : other ≡ slice.now = same_from_id slices other slice.now is_map inside there (alike ∙ sym named) in
        let both : true ≡ false = sym forms ∙ (ap is_forming one ∙ settled) in
        absurd (cc)))

pub of_sub-none : (slices : List Slice) (core : CoreId) (found : Option (Bor Slice))
    → IsSliceFound slices core found → found ≡ None → false ≡ is_of_sub slices core
of_sub-none slices core found is none =
    sym (none_has_id slices core (λ slice there forms.
    All-contains (λ (s : Slice). s.id ≢ core.slice) slices slice (subst (IsSliceFound slices core) none is) there))
