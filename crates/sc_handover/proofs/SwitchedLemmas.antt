-- A bucket is sound once the subs are put in the place of their parent, and their cores have the last writes.
use Rattle.std.proofs.Common.{◌≡◌, ◌⊎◌, ℕ, ◌<◌, ℤ, Bool, true, false, IsTrue, List, [], ◌∷◌, ◌++◌, length, map, get_or, All, Contains, refl, sym, ap, ◌∙◌, subst}
use Rattle.std.specs.Prelude.{pos}
use Rattle.std.proofs.lemmas.List.Elements.{All-contains, All-contains_itself, All-map, All-weaker, Contains-get_or}
use Rattle.sc_hash.specs.declared.range.Range.{Range}
use Rattle.sc_hash.specs.Range.{IsWithin}
use Rattle.sc_record.specs.declared.slice.SliceId.{SliceId}
use Rattle.sc_record.specs.Writes.{Write}
use Rattle.sc_record.specs.declared.entry.Entry.{Entry}
use Rattle.sc_record.specs.declared.entry.Entry.TheVariants as entry
use Rattle.sc_cluster.specs.declared.slice.State.TheVariants as states
use Rattle.sc_cluster.specs.declared.slice.Slice.{Slice}
use Rattle.sc_cluster.specs.Slices.{is_forming, forming}
use Rattle.sc_cluster.specs.Changes.{switched_slice}
use Rattle.sc_cluster.proofs.ListLemmas.{Contains-from_filter, Contains-map}
use Rattle.sc_cluster.proofs.MapLemmas.{switched_is_idle}
use Rattle.sc_cluster.proofs.PairLemmas.{Contains-from_map}
use Rattle.sc_cluster.proofs.StateLemmas.{switched_keeps}
use Rattle.sc_replica.specs.Core.{Core}
use Rattle.sc_journal.specs.Journal.{writes, last_write}
use Rattle.sc_journal.specs.Splits.{open_split}
use Rattle.sc_journal.proofs.DownLemmas.{LeavesCores-switched}
use Rattle.sc_journal.proofs.JournalLemmas.{last_write-push_other, writes-push_other}
use Rattle.sc_journal.proofs.SplitLemmas.{open_split-push}
use Rattle.sc_bucket.specs.Kept.{FlightState}
use Rattle.sc_replicas.specs.Cores.{core_key, core_keys, slice_keys, is_attached, CoresAscend, IsCounted, IsCoreWithoutRoom}
use Rattle.sc_bucket.specs.Pending.{pending}
use Rattle.sc_bucket.specs.Searchers.{ArePrepared}
use Rattle.sc_bucket.specs.Sound.{HasLastWrites, HasCores, IsInPhase, IsSound}
use Rattle.sc_bucket.specs.declared.bucket.Bucket.{Bucket}
use Rattle.sc_bucket.proofs.SoundLemmas.{name_and_mark, SaysSame-push, AreMarked-left}
use Rattle.std.proofs.lemmas.List.{append-nil}
use Rattle.sc_handover.proofs.SentLemmas.{AreSent-more}
use Rattle.sc_handover.specs.Conditions.{IsThereActive, CanSwitch}
use Rattle.sc_handover.specs.Events.{HaveLastWrites}
use Rattle.sc_handover.specs.Parts.{IsQuiet, NoneIsToASub, PutsSwitch}
use Rattle.sc_handover.proofs.EachCoreLemmas.{core_in, IsSoundWith, each_with, IsSound-each}
use Rattle.sc_handover.proofs.NoFeedLemmas.{AreFeeds-none}
use Rattle.sc_handover.proofs.LastWriteLemmas.{last_where_settled}
use Rattle.sc_handover.proofs.SubLemmas.{attached_where_forming, all_are_active, none_is_fed, of_sub_where_forming}
use Rattle.sc_handover.proofs.SettleSubsLemmas.{in_flight-to_sub}
use Rattle.sc_handover.proofs.SwitchedMapLemmas.{SwitchesParts, split_is_open, HasJournal-switched, core_keys-switched, active_before, attached_before}
use Rattle.sc_handover.proofs.HandedOnLemmas.{HasSearchers-switched}

-- what a switch asks of a bucket, once nothing is in flight to the cores of the subs
pub record IsReadyToSwitch (b : Bucket) (parent : SliceId) : Type 0 where
  pub sound : IsSound b
  pub can : CanSwitch b parent
  pub settled : NoneIsToASub b
  pub quiet : All IsQuiet b.replicas

-- each core of a sub has the last writes then
last_of_sub : (b : Bucket) (parent : SliceId) (sub : Slice) (core : Core) → IsReadyToSwitch b parent → Contains b.map sub
    → is_forming sub ≡ true → Contains b.replicas core → sub.id ≡ core.core.slice → HasLastWrites b.journal.entries sub core
last_of_sub b parent sub core ready in_map forms there named =
    let active = all_are_active b parent core ready.sound ready.can there in
    let is_sub = of_sub_where_forming b.map core.core sub in_map named forms in
    last_where_settled b sub core ready.sound in_map named
    (attached_where_forming b sub core ready.sound in_map named forms there) there active
    (All-contains IsQuiet b.replicas core ready.quiet there active) (in_flight-to_sub b core.core ready.settled is_sub)

-- what is within one range is within the same
within_same : (one other : Range) (h : ℤ) → other ≡ one → IsWithin other.min other.max h → IsWithin one.min one.max h
within_same one other h same within = subst (λ (r : Range). IsWithin r.min r.max h) same within

-- and it has them in a journal with the same last writes, in the same range
last_still : (journal longer : List Entry) (one other : Slice) (core : Core)
    → ((id : List ℕ) → last_write longer id ≡ last_write journal id) → other.range ≡ one.range
    → HasLastWrites journal one core → HasLastWrites longer other core
last_still journal longer one other core same range has id within =
    has id (within_same one.range other.range _ range within) ∙ sym (same id)

-- the journal with the entry that says so
abbrev longer : Bucket → SliceId → List Entry
longer b parent = b.journal.entries ++ entry.Switched parent ∷ []

same_last : (b : Bucket) (parent : SliceId) (id : List ℕ) → last_write (longer b parent) id ≡ last_write b.journal.entries id
same_last b parent id = last_write-push_other b.journal.entries (entry.Switched parent) id refl

same_writes : (b : Bucket) (parent : SliceId) → writes (longer b parent) ≡ writes b.journal.entries
same_writes b parent = writes-push_other b.journal.entries (entry.Switched parent) refl

-- a slice of the map after the switch was one before, of the same id and range
pub record WasBefore (b : Bucket) (parent : SliceId) (slice : Slice) : Type 0 where
  pub before : Slice
  pub there : Contains b.map before
  pub now : switched_slice parent before ≡ slice
  pub id : before.id ≡ slice.id
  pub range : slice.range ≡ before.range

slice_before : (b : Bucket) (parent : SliceId) (slice : Slice) → Contains (map (switched_slice parent) b.map) slice
    → WasBefore b parent slice
slice_before b parent slice there =
    let (before, in_map, is) = Contains-from_map (switched_slice parent) b.map slice there in
    record {
      before = before;
      there = in_map;
      now = is;
      id = sym (switched_keeps (λ (s : Slice). s.id) (λ _ _. refl) parent before) ∙ ap (λ (s : Slice). s.id) is;
      range = ap (λ (s : Slice). s.range) (sym is) ∙ switched_keeps (λ (s : Slice). s.range) (λ _ _. refl) parent before;
    }

-- so each core is sound after the switch
core-switched : (b : Bucket) (parent : SliceId) (core : Core) → IsReadyToSwitch b parent → Contains b.replicas core
    → IsSoundWith (map (switched_slice parent) b.map) (longer b parent) b.flight.messages b.feeds core
core-switched b parent core ready there = record {
  serves = λ slice in_map named active leader.
      let was = slice_before b parent slice in_map in
      let last = by was.before was.there (was.id ∙ named) (ap (λ (s : Slice). s.state) was.now ∙ active) leader (is_forming was.before) refl in (
        all_are_active b parent core ready.sound ready.can there,
        last_still b.journal.entries (longer b parent) was.before slice core (same_last b parent) was.range last,
      );
  written = (
    subst (λ (all : List Write). All (Contains all) core.cells) (sym (same_writes b parent)) before.written.0,
    subst (λ (all : List Write). All (Contains all) (pending b.flight.messages b.feeds core)) (sym (same_writes b parent)) before.written.1,
  );
  held = λ slice in_map named attached id write within is.
      let was = slice_before b parent slice in_map in
      before.held was.before was.there (was.id ∙ named)
      (attached_before parent was.before core (subst (λ (s : Slice). IsTrue (is_attached s core)) (sym was.now) attached)) id write
      (within_same was.before.range slice.range _ was.range within) (sym (same_last b parent id) ∙ is);
  in_range = λ slice in_map named.
      let was = slice_before b parent slice in_map in
      let has = before.in_range was.before was.there (was.id ∙ named) in (
        subst (λ (r : Range). All (λ (w : Write). IsWithin r.min r.max w.hash) core.cells) (sym was.range) has.0,
        subst (λ (r : Range). All (λ (w : Write). IsWithin r.min r.max w.hash) (pending b.flight.messages b.feeds core)) (sym was.range) has.1,
      );
  clock = subst (λ (all : List Write). (core.clock ≡ pos 0) ⊎ Contains (map (λ (w : Write). w.version) all) core.clock)
      (sym (same_writes b parent)) before.clock;
  cell_room = before.cell_room;
  buffer_room = before.buffer_room;
} where
  before : IsSoundWith b.map b.journal.entries b.flight.messages b.feeds core
  before = core_in b core ready.sound there

  by : (slice : Slice) → Contains b.map slice → slice.id ≡ core.core.slice → (switched_slice parent slice).state ≡ states.Active
      → core.core.replica ≡ 1 → (t : Bool) → is_forming slice ≡ t → HasLastWrites b.journal.entries slice core
  by slice in_map named active leader true forms = last_of_sub b parent slice core ready in_map forms there named
  by slice in_map named active leader false settled =
      (before.serves slice in_map named (active_before parent slice settled active) leader).1

-- and the names of its cores are those that have to be there
HasCores-switched : (old new : Bucket) (parent : SliceId) → IsReadyToSwitch old parent → PutsSwitch old parent new → HasCores new
HasCores-switched old new parent ready puts = record {
  counted = subst (All IsCounted) (sym puts.cores) has.counted;
  ascend = subst CoresAscend (sym puts.cores) has.ascend;
  of_map = subst (λ (slices : List Slice). All (Contains (core_keys slices)) (map core_key new.replicas)) (sym puts.map_is)
      (subst (λ (keys : List (ℕ × ℕ)). All (Contains keys) (map core_key new.replicas)) (sym (core_keys-switched parent old.map))
      (subst (λ (cores : List Core). All (Contains (core_keys old.map)) (map core_key cores)) (sym puts.cores) has.of_map));
  leaders = subst (All (λ (slice : Slice). Contains (map core_key new.replicas) (slice.id.0, 1))) (sym puts.map_is)
      (All-map (λ (slice : Slice). Contains (map core_key new.replicas) (slice.id.0, 1)) (switched_slice parent) old.map
      (All-weaker (λ (slice : Slice). Contains (map core_key old.replicas) (slice.id.0, 1))
      (λ slice. Contains (map core_key new.replicas) ((switched_slice parent slice).id.0, 1)) leads old.map has.leaders));
  whole = subst (All Whole) (sym puts.map_is)
      (All-map Whole (switched_slice parent) old.map
      (All-weaker (Contains old.map) (λ slice. Whole (switched_slice parent slice)) whole old.map (All-contains_itself old.map)));
  active = λ k d below slice in_map named caught_up.
      all_are_active old parent (get_or new.replicas k d) ready.sound ready.can
      (subst (λ (cores : List Core). Contains cores (get_or new.replicas k d)) puts.cores (inside k d below));
  marked = AreMarked-left old.journal.entries new.journal.entries old.replicas new.replicas (ap (map name_and_mark) puts.cores)
      (SaysSame-push old.journal.entries new.journal.entries (entry.Switched parent) puts.entries (LeavesCores-switched parent)
      (λ _ _. refl)) has.marked;
} where
  has : HasCores old
  has = ready.sound.cores

  Whole : Slice → Type 0
  Whole slice = is_forming slice ≡ false → All (Contains (map core_key new.replicas)) (slice_keys slice)

  inside : (k : ℕ) (d : Core) → k < length new.replicas → Contains new.replicas (get_or new.replicas k d)
  inside k d below = Contains-get_or new.replicas k d below

  same_keys : map core_key new.replicas ≡ map core_key old.replicas
  same_keys = ap (map core_key) puts.cores

  leads : (slice : Slice) → Contains (map core_key old.replicas) (slice.id.0, 1)
      → Contains (map core_key new.replicas) ((switched_slice parent slice).id.0, 1)
  leads slice there =
      subst (λ (keys : List (ℕ × ℕ)). Contains keys ((switched_slice parent slice).id.0, 1)) (sym same_keys)
      (subst (λ (id : SliceId). Contains (map core_key old.replicas) (id.0, 1))
      (sym (switched_keeps (λ (s : Slice). s.id) (λ _ _. refl) parent slice)) there)

  there_in : (key : ℕ × ℕ) → IsThereActive old key → Contains (map core_key old.replicas) key
  there_in key (core, there, is, active) =
      subst (Contains (map core_key old.replicas)) is (Contains-map core_key old.replicas core there)

  by : (slice : Slice) → Contains old.map slice → (t : Bool) → is_forming slice ≡ t
      → All (Contains (map core_key old.replicas)) (slice_keys slice)
  by slice in_map false settled =
      All-contains (λ (s : Slice). is_forming s ≡ false → All (Contains (map core_key old.replicas)) (slice_keys s)) old.map slice
      has.whole in_map settled
  by slice in_map true forms =
      All-weaker (IsThereActive old) (Contains (map core_key old.replicas)) there_in (slice_keys slice)
      (All-contains (λ (s : Slice). is_forming s ≡ true → All (IsThereActive old) (slice_keys s)) old.map slice ready.can.whole in_map forms)

  whole : (slice : Slice) → Contains old.map slice → Whole (switched_slice parent slice)
  whole slice in_map settled =
      subst (λ (keys : List (ℕ × ℕ)). All (Contains (map core_key new.replicas)) keys)
      (sym (switched_keeps slice_keys (λ _ _. refl) parent slice))
      (subst (λ (keys : List (ℕ × ℕ)). All (Contains keys) (slice_keys slice)) (sym same_keys) (by slice in_map (is_forming slice) refl))

-- so a bucket is sound once its split was switched
pub IsSound-switched : (old new : Bucket) (parent : SliceId) → IsReadyToSwitch old parent → PutsSwitch old parent new
    → SwitchesParts old parent new → IsSound new
IsSound-switched old new parent ready puts parts =
    let split = (split_is_open old parent ready.sound ready.can.recovering).0 in
    let slices : List Slice = map (switched_slice parent) old.map in
    let cores =
    each_with new slices (longer old parent) old.flight.messages old.feeds old.replicas puts.map_is puts.entries
    (ap (λ (flight : FlightState). flight.messages) puts.flight_is)
    (puts.feeds_are ∙ sym (none_is_fed old parent ready.sound ready.can)) puts.cores
    (All-weaker (Contains old.replicas) (IsSoundWith slices (longer old parent) old.flight.messages old.feeds)
    (λ core. core-switched old parent core ready) old.replicas (All-contains_itself old.replicas)) in
    IsSound-each new cores (subst (All IsCoreWithoutRoom) (sym puts.cores) ready.sound.in_order)
    (HasJournal-switched old new parent ready.sound.journal split puts parts)
    (HasSearchers-switched old new parent ready.sound split puts)
    (subst (λ phase. ArePrepared phase new.map new.searchers new.spares) (sym puts.phase_is) parts.spares_are)
    (AreSent-more old new (entry.Switched parent) [] ready.sound.messages puts.entries (λ _. refl)
    (LeavesCores-switched parent) (puts.cores ∙ sym (append-nil old.replicas)) (ap (λ (flight : FlightState). flight.messages) puts.flight_is))
    (HasCores-switched old new parent ready puts)
    (AreFeeds-none new puts.feeds_are)
    (subst (IsInPhase new) (sym puts.phase_is) (record {
      idle = ap open_split puts.entries ∙ open_split-push old.journal.entries (entry.Switched parent);
      whole = ap forming puts.map_is ∙ switched_is_idle old.map parent;
    }))

-- and each core of a sub has the last writes still
pub HaveLastWrites-switched : (old new : Bucket) (parent : SliceId) → IsReadyToSwitch old parent → PutsSwitch old parent new
    → HaveLastWrites new (forming old.map)
HaveLastWrites-switched old new parent ready puts sub core of_sub there named =
    let (in_map, forms) = Contains-from_filter is_forming old.map sub of_sub in
    let here = subst (λ (cores : List Core). Contains cores core) puts.cores there in
    subst (λ journal. HasLastWrites journal sub core) (sym puts.entries)
    (last_still old.journal.entries (longer old parent) sub sub core (same_last old parent) refl
    (last_of_sub old parent sub core ready in_map forms here (sym named)))
