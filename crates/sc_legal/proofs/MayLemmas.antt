-- Whether an entry may follow a journal, by what is kept of that.
use Rattle.std.proofs.Common.{◌≡◌, ◌↔◌, ℕ, ◌+◌, Bool, true, false, not, ◌&&◌, List, [], ◌∷◌, ◌++◌, Some, None, Option, is_some, IsTrue, IfSome, refl, sym, ap, ◌∙◌, subst}
use Rattle.std.specs.Prelude.{ℤ, pos, ◌<ℤ◌, ◌≤ℤ◌, Result, Ok, Err, is_err, IfOk, OnOk, OnErr}
use Rattle.std.specs.List.{AllByRecursion}
use Rattle.std.specs.Option.{option_map}
use Rattle.std.specs.BTreeMap.{get}
use Rattle.std.specs.BTreeSet.{contains}
use Rattle.std.specs.Cmp.Lexicographic.{slice_cmp}
use Rattle.std.specs.Ordering.{nat_cmp}
use Rattle.std.proofs.lemmas.Bool.{and_parts, false≢true}
use Rattle.std.proofs.lemmas.List.Elements.{All-contains, All-from_recursion}
use Rattle.sc_record.specs.declared.slice.SliceId.{SliceId}
use Rattle.sc_record.specs.declared.slice.SubSlice.{SubSlice}
use Rattle.sc_record.specs.declared.slice.CoreId.{CoreId}
use Rattle.sc_record.specs.Writes.{Write}
use Rattle.sc_record.specs.declared.entry.Entry.{Entry}
use Rattle.sc_record.specs.Names.{key_of_core}
use Rattle.sc_record.specs.Versions.{last_timed_version}
use Rattle.sc_cluster.specs.declared.slice.Slice.{Slice}
use Rattle.sc_cluster.specs.Changes.{Change, IsBeingSplit, IsInactive, MayChange}
use Rattle.sc_cluster.specs.Plans.{IsPlan}
use Rattle.sc_journal.specs.Journal.{writes_of, last_write, write_at, is_settled}
use Rattle.sc_journal.specs.Splits.{open_split}
use Rattle.sc_journal.specs.Down.{IsFollower}
use Rattle.sc_journal.specs.Legal.{MayWrite, MaySettle, MayBeSplit, MayBeDropped, MayGoDown, MayComeUp, MayLead, MayFollow}
use Rattle.sc_journal.proofs.JournalLemmas.{last_write_is}
use Rattle.sc_journal.proofs.VersionLemmas.{newest_from_last}
use Rattle.sc_journal.proofs.MapLemmas.{legal_fits}
use Rattle.sc_legal.specs.declared.kept.Kept.{Kept}
use Rattle.sc_legal.specs.Passed.{Passed}
use Rattle.sc_journal.specs.Computed.{IsComputed}
use Rattle.sc_legal.specs.Kept.{is_among, last_version, IsKept, IsChecked, Notes}

-- what a denied test answers
denied : (test : Bool) → not test ≡ true → test ≡ false
denied true is = absurd (false≢true is)
denied false is = refl

-- a write may be settled
pub may_settle : (first : List Slice) (journal : List Entry) (kept : Kept) (place : ℕ) → IsKept first journal kept
    → IsTrue (contains nat_cmp kept.unsettled place) ↔ MaySettle journal place
may_settle first journal kept place is = (forth, back) where
  forth : IsTrue (contains nat_cmp kept.unsettled place) → MaySettle journal place
  forth here =
      let parts = and_parts (is_some (write_at journal place)) (not (is_settled journal place)) (sym (is.unsettled_is place) ∙ here) in
      record { written = parts.0; once = denied (is_settled journal place) parts.1 }

  back : MaySettle journal place → IsTrue (contains nat_cmp kept.unsettled place)
  back may =
      is.unsettled_is place ∙ ap (λ b. b && not (is_settled journal place)) may.written ∙ ap not may.once

-- a version is above that of the last write of an id, where it is above those of all
newer_than_last : (journal : List Entry) (id : List ℕ) (version : ℤ)
    → AllByRecursion (λ (earlier : Write). earlier.version <ℤ version) (writes_of journal id)
    → IfSome (last_version journal id) (λ last. last <ℤ version)
newer_than_last journal id version newest = by (last_write journal id) refl where
  by : (last : Option Write) → last_write journal id ≡ last → IfSome (last_version journal id) (λ last. last <ℤ version)
  by None is =
      subst (λ (w : Option Write). IfSome (option_map (λ (write : Write). write.version) w) (λ last. last <ℤ version)) (sym is) tt
  by (Some last) is =
      subst (λ (w : Option Write). IfSome (option_map (λ (write : Write). write.version) w) (λ last. last <ℤ version)) (sym is)
      (All-contains (λ (earlier : Write). earlier.version <ℤ version) (writes_of journal id) last
      (All-from_recursion (λ (earlier : Write). earlier.version <ℤ version) (writes_of journal id) newest)
      (last_write_is journal id last is).0)

-- the version is above that which is kept of the last write of its id, and is not too great
abbrev pub IsTimely : Kept → Write → Type 0
IsTimely kept write =
    IfSome (get (slice_cmp nat_cmp) kept.newest write.id) (λ last. last <ℤ write.version)
    × (write.version ≤ℤ pos (last_timed_version + (kept.writes + 1)))

-- a write may come
pub may_write : (first : List Slice) (journal : List Entry) (kept : Kept) (write : Write) → IsChecked first journal kept
    → IsComputed write → pos 0 <ℤ write.version → IsTimely kept write ↔ MayWrite journal write
may_write first journal kept write checked computed positive = (forth, back) where
  is : IsKept first journal kept
  is = checked.kept_is

  forth : IsTimely kept write → MayWrite journal write
  forth (newer, bounded) = record {
    hash = computed.hash;
    terms = computed.terms;
    positive = positive;
    newest = newest_from_last first journal write.id write.version checked.legal (λ last found.
        subst (λ (v : Option ℤ). IfSome v (λ last. last <ℤ write.version))
        (is.newest_is write.id ∙ ap (option_map (λ (w : Write). w.version)) found) newer);
    bounded = subst (λ (n : ℕ). write.version ≤ℤ pos (last_timed_version + (n + 1))) is.writes_are bounded;
  }

  back : MayWrite journal write → IsTimely kept write
  back may = (
    subst (λ (v : Option ℤ). IfSome v (λ last. last <ℤ write.version)) (sym (is.newest_is write.id))
        (newer_than_last journal write.id write.version may.newest),
    subst (λ (n : ℕ). write.version ≤ℤ pos (last_timed_version + (n + 1))) (sym is.writes_are) may.bounded,
  )

-- a split may begin
pub may_be_split : (first : List Slice) (journal : List Entry) (kept : Kept) (parent : SliceId) (subs : List SubSlice)
    → IsKept first journal kept → ((kept.split ≡ None) × IsPlan kept.map parent subs) ↔ MayBeSplit first journal parent subs
may_be_split first journal kept parent subs is = (
  λ (idle, plan). record {
    idle = sym is.split_is ∙ idle;
    plan = subst (λ (slices : List Slice). IsPlan slices parent subs) is.map_is plan;
  },
  λ may. (is.split_is ∙ may.idle, subst (λ (slices : List Slice). IsPlan slices parent subs) (sym is.map_is) may.plan),
)

-- one may end
pub may_end : (first : List Slice) (journal : List Entry) (kept : Kept) (parent : SliceId) → IsKept first journal kept
    → (kept.split ≡ Some parent) ↔ (open_split journal ≡ Some parent)
may_end first journal kept parent is = (λ here. sym is.split_is ∙ here, λ may. is.split_is ∙ may)

-- a slice may be dropped
pub may_be_dropped : (first : List Slice) (journal : List Entry) (kept : Kept) (slice : SliceId) → IsKept first journal kept
    → ((kept.split ≡ None) × IsInactive kept.map slice) ↔ MayBeDropped first journal slice
may_be_dropped first journal kept slice is = (
  λ (idle, inactive). record {
    idle = sym is.split_is ∙ idle;
    inactive = subst (λ (slices : List Slice). IsInactive slices slice) is.map_is inactive;
  },
  λ may. (is.split_is ∙ may.idle, subst (λ (slices : List Slice). IsInactive slices slice) (sym is.map_is) may.inactive),
)

-- a core may go down
pub may_go_down : (first : List Slice) (journal : List Entry) (kept : Kept) (core : CoreId) → IsKept first journal kept
    → (IsFollower kept.map core × (is_among (key_of_core core) kept.down ≡ false)) ↔ MayGoDown first journal core
may_go_down first journal kept core is = (
  λ (follower, up). record {
    follower = subst (λ (slices : List Slice). IsFollower slices core) is.map_is follower;
    up = sym (is.down_is (key_of_core core)) ∙ up;
  },
  λ may. (
    subst (λ (slices : List Slice). IsFollower slices core) (sym is.map_is) may.follower,
    is.down_is (key_of_core core) ∙ may.up,
  ),
)

-- one may come up
pub may_come_up : (first : List Slice) (journal : List Entry) (kept : Kept) (core : CoreId) → IsKept first journal kept
    → ((kept.split ≡ None) × IsFollower kept.map core × (is_among (key_of_core core) kept.down ≡ true)) ↔ MayComeUp first journal core
may_come_up first journal kept core is = (
  λ (idle, follower, down). record {
    idle = sym is.split_is ∙ idle;
    follower = subst (λ (slices : List Slice). IsFollower slices core) is.map_is follower;
    down = sym (is.down_is (key_of_core core)) ∙ down;
  },
  λ may. (
    is.split_is ∙ may.idle,
    subst (λ (slices : List Slice). IsFollower slices core) (sym is.map_is) may.follower,
    is.down_is (key_of_core core) ∙ may.down,
  ),
)

-- one may take the lead
pub may_lead : (first : List Slice) (journal : List Entry) (kept : Kept) (core : CoreId) → IsKept first journal kept
    → ((kept.split ≡ None) × IsFollower kept.map core × (is_among (key_of_core core) kept.down ≡ false)) ↔ MayLead first journal core
may_lead first journal kept core is = (
  λ (idle, follower, up). record {
    idle = sym is.split_is ∙ idle;
    follower = subst (λ (slices : List Slice). IsFollower slices core) is.map_is follower;
    up = sym (is.down_is (key_of_core core)) ∙ up;
  },
  λ may. (
    is.split_is ∙ may.idle,
    subst (λ (slices : List Slice). IsFollower slices core) (sym is.map_is) may.follower,
    is.down_is (key_of_core core) ∙ may.up,
  ),
)

-- a test that tells the one tells the other
pub told : {A B : Type 0} (test : Bool) → IsTrue test ↔ A → A ↔ B → IsTrue test ↔ B
told test says same = (λ is. same.0 (says.0 is), λ b. says.1 (same.1 b))

-- the slice whose split is open in a legal journal is being split in the map that is kept
pub being_split : (first : List Slice) (journal : List Entry) (kept : Kept) (parent : SliceId) → IsChecked first journal kept
    → open_split journal ≡ Some parent → IsBeingSplit kept.map parent
being_split first journal kept parent checked may =
    subst (λ (slices : List Slice). IsBeingSplit slices parent) (sym checked.kept_is.map_is)
    ((legal_fits first journal checked.begins checked.idle checked.legal).splitting parent may)

-- and a slice that may be dropped may be taken out of it
pub may_take_out : (first : List Slice) (journal : List Entry) (kept : Kept) (slice : SliceId) → IsChecked first journal kept
    → MayBeDropped first journal slice → MayChange kept.map (Change.Dropped slice)
may_take_out first journal kept slice checked may =
    subst (λ (slices : List Slice). MayChange slices (Change.Dropped slice)) (sym checked.kept_is.map_is)
    ((legal_fits first journal checked.begins checked.idle checked.legal).idle may.idle, may.inactive)

-- and it is told of what is seen of a checker, which is handed an entry
pub seen_as : (first : List Slice) (journal : List Entry) (passed : Passed) (one handed : Entry) (test : Bool)
    → record { first = first; journal = journal } ≡ passed → handed ≡ one → IsTrue test ↔ MayFollow first journal one
    → IsTrue test ↔ MayFollow passed.first passed.journal handed
seen_as first journal passed one handed test same is says =
    subst (λ (p : Passed). IsTrue test ↔ MayFollow p.first p.journal handed) same
    (subst (λ (e : Entry). IsTrue test ↔ MayFollow first journal e) (sym is) says)

-- what follows of a value from what is known of it, where there is one
pub if_ok : {T E : Type 0} (P Q : T → Type 0) (r : Result T E) → ((x : T) → P x → Q x) → IfOk r P → IfOk r Q
if_ok P Q (Ok x) weaker holds = weaker x holds
if_ok P Q (Err e) weaker holds = tt

-- what holds where a call succeeds, at one that does, and at one that fails
pub where_ok : {T E : Type 0} (P : Type 0) (r : Result T E) → is_err r ≡ false → OnOk r P → P
where_ok P (Ok x) ok holds = holds
where_ok P (Err e) ok holds = absurd (false≢true (sym ok))

pub where_err : {T E : Type 0} (P : Type 0) (r : Result T E) → is_err r ≡ true → OnErr r P → P
where_err P (Ok x) err holds = absurd (false≢true err)
where_err P (Err e) err holds = holds

-- what a change of what is kept notes, where it is that of the entry
pub noted : (one handed : Entry) (old next new : Kept) → handed ≡ one → new ≡ next
    → ((first : List Slice) (journal : List Entry) → IsKept first journal old → IsKept first (journal ++ one ∷ []) next)
    → Notes handed old new
noted one handed old next new is same keeps = λ first journal legal may kept_is.
    subst (λ (e : Entry). IsKept first (journal ++ e ∷ []) new) (sym is)
    (subst (IsKept first (journal ++ one ∷ [])) (sym same) (keeps first journal kept_is))

-- where the call that makes it may fail
pub noted_where_ok : {T E : Type 0} (one handed : Entry) (old next new : Kept) (r : Result T E) → handed ≡ one → OnOk r (new ≡ next)
    → ((first : List Slice) (journal : List Entry) → IsKept first journal old → IsKept first (journal ++ one ∷ []) next)
    → OnOk r (Notes handed old new)
noted_where_ok one handed old next new (Ok x) is same keeps = noted one handed old next new is same keeps
noted_where_ok one handed old next new (Err e) is same keeps = tt
