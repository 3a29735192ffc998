-- The cores of the slices that stay when others leave a map are those that have to be there.
use Rattle.std.proofs.Common.{◌≡◌, ◌∙◌, ℕ, suc, Bool, true, false, nat_eq, List, [], ◌∷◌, get_or, map, filter, All, Contains, ◌⊎◌, inl, inr, refl, sym, ap, subst, arith}
use Rattle.std.specs.List.{range_with_len}
use Rattle.std.specs.List.Sorted.{IsStrictlyIncreasing}
use Rattle.std.proofs.lemmas.Bool.Decides.{Decides-eqb}
use Rattle.std.proofs.lemmas.List.Elements.{All-contains, All-contains_itself, All-map, All-weaker, Contains-append_cases, Contains-get_or}
use Rattle.std.proofs.lemmas.List.Folds.{Any-from_list_any, list_any_at}
use Rattle.sc_record.specs.declared.slice.SliceId.{SliceId}
use Rattle.sc_record.specs.declared.slice.CoreId.{CoreId}
use Rattle.sc_cluster.specs.declared.slice.Slice.{Slice}
use Rattle.sc_cluster.specs.Map.{IsMap}
use Rattle.sc_cluster.specs.Slices.{is_forming}
use Rattle.sc_cluster.proofs.LeaderLemmas.{same_from_id}
use Rattle.sc_cluster.proofs.ListLemmas.{Contains-map, Contains-filter, Contains-from_filter}
use Rattle.sc_cluster.proofs.OrderLemmas.{IsStrictlyIncreasing-map-filter}
use Rattle.sc_cluster.proofs.PairLemmas.{Contains-from_map}
use Rattle.sc_ulog.specs.declared.mode.Mode.TheVariants.{Active}
use Rattle.sc_replica.specs.Core.{Core}
use Rattle.sc_record.specs.Names.{key_of_core}
use Rattle.sc_record.specs.declared.entry.Entry.{Entry}
use Rattle.sc_journal.specs.Down.{is_down}
use Rattle.sc_journal.specs.Seats.{seats}
use Rattle.sc_replicas.specs.Cores.{core_key, core_keys, slice_keys, core_number, is_of_one, IsCounted}
use Rattle.sc_bucket.specs.Sound.{IsMarked, may_catch_up, HasCores}
use Rattle.sc_bucket.specs.declared.bucket.Bucket.{Bucket}
use Rattle.sc_replicas.proofs.CoreLemmas.{keys_among}

-- the one slices are some of the others
abbrev pub AreSome : List Slice → List Slice → Type 0
AreSome some all = (slice : Slice) → Contains some slice → Contains all slice

-- the core's slice is one of these
abbrev pub is_kept : List Slice → Core → Bool
is_kept slices core = is_of_one slices core.core

-- ids of the same number are the same
pub same_number : (one other : SliceId) → one.0 ≡ other.0 → one ≡ other
same_number one other same = ap (λ (n : ℕ). record { 0 = n }) same

-- a core of one of the slices has its slice among them
pub slice_of_one : (slices : List Slice) (name : CoreId) → is_of_one slices name ≡ true
    → (slice : Slice) × Contains slices slice × (slice.id ≡ name.slice)
slice_of_one slices name is =
    let (k, slice, below, there, same) = Any-from_list_any (λ (s : Slice). nat_eq s.id.0 name.slice.0) slices is in
    (slice, (k, below, there), same_number slice.id name.slice ((Decides-eqb slice.id.0 name.slice.0).0 same))

-- and the way back
pub is_of_one-there : (slices : List Slice) (slice : Slice) (name : CoreId) → Contains slices slice
    → slice.id ≡ name.slice → is_of_one slices name ≡ true
is_of_one-there slices slice name (k, below, there) same =
    list_any_at (λ (s : Slice). nat_eq s.id.0 name.slice.0) slices k slice below
    ((Decides-eqb (get_or slices k slice).id.0 name.slice.0).1
    (ap (λ (s : Slice). s.id.0) there ∙ ap (λ (id : SliceId). id.0) same))

-- what is true of each element that passes a test is true of those that the test leaves
pub All-kept : {A : Type 0} (P : A → Type 0) (p : A → Bool) (xs : List A)
    → ((x : A) → Contains xs x → p x ≡ true → P x) → All P (filter p xs)
All-kept P p xs each =
    All-weaker (Contains (filter p xs)) P
    (λ x inside. let there = Contains-from_filter p xs x inside in each x there.0 there.1)
    (filter p xs) (All-contains_itself (filter p xs))

-- a name of a slice's cores is of the slice
key_is_of : (slice : Slice) (key : ℕ × ℕ) → Contains (slice_keys slice) key → key.0 ≡ slice.id.0
key_is_of slice key there =
    let (replica, inside, is) =
    Contains-from_map (λ (replica : ℕ). (slice.id.0, replica)) (range_with_len 1 slice.replicas) key there in
    ap (λ (k : ℕ × ℕ). k.0) (sym is)

-- a name of the map's cores is one of a slice's
pub slice_of_key : (slices : List Slice) (key : ℕ × ℕ) → Contains (core_keys slices) key
    → (slice : Slice) × Contains slices slice × Contains (slice_keys slice) key
slice_of_key [] key (k, below, is) = absurd (omega arith)
slice_of_key (first ∷ slices) key there =
    by (slice_of_key slices key) (Contains-append_cases (slice_keys first) (core_keys slices) key there) where
      by : (Contains (core_keys slices) key → (slice : Slice) × Contains slices slice × Contains (slice_keys slice) key)
          → Contains (slice_keys first) key ⊎ Contains (core_keys slices) key
          → (slice : Slice) × Contains (first ∷ slices) slice × Contains (slice_keys slice) key
      by rest (inl here) = (first, (0, omega arith, refl), here)
      by rest (inr later) =
          let (slice, (k, below, is), inside) = rest later in (slice, (suc k, omega arith, is), inside)

-- a core that is kept has a name of those of the slices
key_kept : (all slices : List Slice) (core : Core) → IsMap all → AreSome slices all
    → Contains (core_keys all) (core_key core) → is_kept slices core ≡ true
    → Contains (core_keys slices) (core_key core)
key_kept all slices core is_map some there kept =
    let (one, one_there, inside) = slice_of_key all (core_key core) there in
    let (slice, slice_there, named) = slice_of_one slices core.core kept in
    let number : one.id.0 ≡ slice.id.0 =
    sym (key_is_of one (core_key core) inside) ∙ ap (λ (id : SliceId). id.0) (sym named) in
    let same : one ≡ slice =
    same_from_id all one slice is_map one_there (some slice slice_there) (same_number one.id slice.id number) in
    keys_among slices slice (core_key core) slice_there
    (subst (λ (s : Slice). Contains (slice_keys s) (core_key core)) same inside)

-- a core of a slice that stays, which is there, stays
key_stays : (slices : List Slice) (cores : List Core) (slice : Slice) (key : ℕ × ℕ) → Contains slices slice
    → key.0 ≡ slice.id.0 → Contains (map core_key cores) key
    → Contains (map core_key (filter (is_kept slices) cores)) key
key_stays slices cores slice key there of_slice inside =
    let (core, core_there, is) = Contains-from_map core_key cores key inside in
    let number : slice.id.0 ≡ core.core.slice.0 = sym of_slice ∙ ap (λ (k : ℕ × ℕ). k.0) (sym is) in
    let kept : is_kept slices core ≡ true =
    is_of_one-there slices slice core.core there (same_number slice.id core.core.slice number) in
    let left : List Core = filter (is_kept slices) cores in
    subst (Contains (map core_key left)) is
    (Contains-map core_key left core (Contains-filter (is_kept slices) cores core core_there kept))

-- each replica of the slice is there, where no split is making it
abbrev IsWhole : List (ℕ × ℕ) → Slice → Type 0
IsWhole keys slice = is_forming slice ≡ false → All (Contains keys) (slice_keys slice)

-- the journals say the same of a core: whether it is down, and which of its slice's cores sits in its seat
pub record SaysTheSame (before after : List Entry) (name : CoreId) : Type 0 where
  pub down : is_down after (key_of_core name) ≡ is_down before (key_of_core name)
  pub number : seats after name.slice name.replica ≡ seats before name.slice name.replica

-- so it has the mark and the number that it had to have
pub still_marked : (before after : List Entry) (core : Core) → SaysTheSame before after core.core → IsMarked before core
    → IsMarked after core
still_marked before after core same is = record { down = is.down ∙ sym same.down; number = is.number ∙ sym same.number }

-- So the cores are those that have to be there, where the same is said of those that stay, and none of them may still be catching up
-- that might not before.
pub HasCores-kept : (old new : Bucket) → IsMap old.map → AreSome new.map old.map
    → new.replicas ≡ filter (is_kept new.map) old.replicas
    → ((name : CoreId) → is_of_one new.map name ≡ true → SaysTheSame old.journal.entries new.journal.entries name)
    → ((slice : Slice) (name : CoreId) → Contains new.map slice → may_catch_up new.phase slice name ≡ false
    → may_catch_up old.phase slice name ≡ false)
    → HasCores old → HasCores new
HasCores-kept old new is_map some cores same free has = record {
  counted = subst (All IsCounted) (sym cores)
      (All-kept IsCounted kept old.replicas
      (λ core there _. All-contains IsCounted old.replicas core has.counted there));
  ascend = subst (λ (these : List Core). IsStrictlyIncreasing (map number these)) (sym cores)
      (IsStrictlyIncreasing-map-filter number kept old.replicas has.ascend);
  of_map = subst (λ (these : List Core). All (Contains (core_keys new.map)) (map core_key these)) (sym cores)
      (All-map (Contains (core_keys new.map)) core_key (filter kept old.replicas)
      (All-kept (λ (core : Core). Contains (core_keys new.map) (core_key core)) kept old.replicas
      (λ core there. key_kept old.map new.map core is_map some (in_map core there))));
  leaders = each_slice (λ (slice : Slice). Contains (map core_key new.replicas) (slice.id.0, 1))
      (λ slice there. stays slice (slice.id.0, 1) there refl
      (All-contains (λ (s : Slice). Contains (map core_key old.replicas) (s.id.0, 1)) old.map slice has.leaders
      (some slice there)));
  whole = each_slice (IsWhole (map core_key new.replicas))
      (λ slice there done k d below. stays slice (get_or (slice_keys slice) k d) there
      (key_is_of slice (get_or (slice_keys slice) k d) (Contains-get_or (slice_keys slice) k d below))
      (All-contains (IsWhole (map core_key old.replicas)) old.map slice has.whole (some slice there) done k d below));
  active = subst (All (IsReady new)) (sym cores)
      (All-kept (IsReady new) kept old.replicas
      (λ core there _ slice inside named caught_up.
      All-contains (IsReady old) old.replicas core has.active there slice (some slice inside) named
      (free slice core.core inside caught_up)));
  marked = subst (All (IsMarked new.journal.entries)) (sym cores)
      (All-kept (IsMarked new.journal.entries) kept old.replicas
      (λ core there own. still_marked old.journal.entries new.journal.entries core (same core.core own)
      (All-contains (IsMarked old.journal.entries) old.replicas core has.marked there)));
} where
  kept : Core → Bool
  kept = is_kept new.map

  number : Core → ℕ
  number core = core_number core.core

  IsReady : Bucket → Core → Type 0
  IsReady b core = (slice : Slice) → Contains b.map slice → slice.id ≡ core.core.slice
      → may_catch_up b.phase slice core.core ≡ false → core.mode ≡ Active

  in_map : (core : Core) → Contains old.replicas core → Contains (core_keys old.map) (core_key core)
  in_map core there =
      All-contains (Contains (core_keys old.map)) (map core_key old.replicas) (core_key core) has.of_map
      (Contains-map core_key old.replicas core there)

  stays : (slice : Slice) (key : ℕ × ℕ) → Contains new.map slice → key.0 ≡ slice.id.0
      → Contains (map core_key old.replicas) key → Contains (map core_key new.replicas) key
  stays slice key there of_slice inside =
      subst (λ (these : List Core). Contains (map core_key these) key) (sym cores)
      (key_stays new.map old.replicas slice key there of_slice inside)

  each_slice : (P : Slice → Type 0) → ((slice : Slice) → Contains new.map slice → P slice) → All P new.map
  each_slice P each = All-weaker (Contains new.map) P each new.map (All-contains_itself new.map)
