-- What is kept of a journal, once one entry more came.
use Rattle.std.proofs.Common.{◌≡◌, ℕ, ◌+◌, ◌≤◌, Bool, true, false, not, ◌&&◌, ◌||◌, cond, eqb, nat_eq, List, [], ◌∷◌, ◌++◌, length, Some, None, Option, refl, sym, ap, ◌∙◌, arith, length-append}
use Rattle.std.specs.Prelude.{ℤ}
use Rattle.std.specs.List.{filter}
use Rattle.std.specs.Str.{bytes_eq}
use Rattle.std.specs.Arc.{arc_value}
use Rattle.std.specs.BTreeMap.{BTreeMap, get, is_at}
use Rattle.std.specs.Map.{lookup}
use Rattle.std.specs.BTreeSet.{BTreeSet, contains}
use Rattle.std.specs.Cmp.{unsigned_ties}
use Rattle.std.specs.Cmp.Lexicographic.{slice_cmp}
use Rattle.std.specs.Ordering.{nat_cmp, is_eq}
use Rattle.std.proofs.lemmas.Bool.{eqb-true}
use Rattle.std.proofs.lemmas.Map.Text.{is_eq-slice_cmp}
use Rattle.sc_record.specs.declared.slice.SliceId.{SliceId}
use Rattle.sc_record.specs.declared.slice.SubSlice.{SubSlice}
use Rattle.sc_record.specs.declared.slice.CoreId.{CoreId}
use Rattle.sc_record.specs.declared.entry.Entry.{Entry}
use Rattle.sc_record.specs.declared.entry.Entry.TheVariants as entry
use Rattle.sc_record.specs.Names.{key_of_core, is_key, is_core}
use Rattle.sc_cluster.specs.declared.slice.Slice.{Slice}
use Rattle.sc_cluster.specs.Changes.{Change, after}
use Rattle.sc_journal.specs.Journal.{as_write, writes}
use Rattle.sc_journal.specs.Legal.{MayFollow, IsLegal}
use Rattle.sc_journal.specs.Splits.{map_after, open_split}
use Rattle.sc_journal.specs.Down.{is_down}
use Rattle.sc_journal.proofs.JournalLemmas.{writes-push_write, writes-push_other, length-writes}
use Rattle.sc_journal.proofs.SettledLemmas.{SettlesNothing}
use Rattle.sc_journal.proofs.DownLemmas.{is_down-push, is_down-left, LeavesCores-begun, LeavesCores-switched, LeavesCores-failed, LeavesCores-write, LeavesCores-settled, LeavesCores-committed}
use Rattle.sc_journal.proofs.SplitLemmas.{map_after-push, map_after-left, open_split-push, open_split-left, LeavesSlices, LeavesSlices-write, LeavesSlices-settled, LeavesSlices-committed, LeavesSlices-down, LeavesSlices-up, LeavesSlices-led}
use Rattle.sc_legal.specs.declared.kept.Kept.{Kept}
use Rattle.sc_legal.specs.Kept.{is_among, is_unsettled_at, IsKept}
use Rattle.sc_legal.proofs.UnsettledLemmas.{is_unsettled-left, is_unsettled-settled, is_unsettled-write, is_unsettled-end}
use Rattle.sc_legal.proofs.VersionLemmas.{last_version-left, last_version-write}
use Rattle.sc_legal.proofs.DownLemmas.{is_among-push, is_among-removed, is_among-left}

-- a journal has as many entries more as came
longer : (journal : List Entry) (one : Entry) (count : ℕ) → count ≡ length journal → count + 1 ≡ length (journal ++ one ∷ [])
longer journal one count same = omega (arith, same, length-append journal (one ∷ []))

-- no more writes than entries are counted
pub writes_within : (first : List Slice) (journal : List Entry) (kept : Kept) → IsKept first journal kept
    → kept.writes ≤ kept.entries
writes_within first journal kept is = omega (arith, is.writes_are, is.entries_are, length-writes journal)

-- an entry that is no write, and settles none
kept_other : (first : List Slice) (journal : List Entry) (kept : Kept) (one : Entry) (slices : List Slice)
    (split : Option SliceId) (down : List CoreId) → as_write one ≡ None → SettlesNothing one
    → slices ≡ map_after first (journal ++ one ∷ []) → split ≡ open_split (journal ++ one ∷ [])
    → ((key : ℕ × ℕ) → is_among key down ≡ is_down (journal ++ one ∷ []) key) → IsKept first journal kept
    → IsKept first (journal ++ one ∷ []) (record kept { map = slices; split = split; down = down; entries = kept.entries + 1 })
kept_other first journal kept one slices split down none nothing map_is split_is down_is is = record {
  map_is = map_is;
  split_is = split_is;
  newest_is = λ id. is.newest_is id ∙ sym (last_version-left journal one id none);
  writes_are = is.writes_are ∙ sym (ap length (writes-push_other journal one none));
  unsettled_is = λ place. is.unsettled_is place ∙ sym (is_unsettled-left journal one place none nothing);
  down_is = down_is;
  entries_are = longer journal one kept.entries is.entries_are;
}

-- one that leaves the slices too, and says something of cores
kept_of_cores : (first : List Slice) (journal : List Entry) (kept : Kept) (one : Entry) (down : List CoreId)
    → as_write one ≡ None → SettlesNothing one → LeavesSlices one
    → ((key : ℕ × ℕ) → is_among key down ≡ is_down (journal ++ one ∷ []) key) → IsKept first journal kept
    → IsKept first (journal ++ one ∷ []) (record kept { down = down; entries = kept.entries + 1 })
kept_of_cores first journal kept one down none nothing leaves down_is is =
    kept_other first journal kept one kept.map kept.split down none nothing
    (is.map_is ∙ sym (map_after-left first journal one leaves)) (is.split_is ∙ sym (open_split-left journal one leaves)) down_is is

-- one that commits
pub kept-committed : (first : List Slice) (journal : List Entry) (kept : Kept) → IsKept first journal kept
    → IsKept first (journal ++ entry.Committed ∷ []) (record kept { entries = kept.entries + 1 })
kept-committed first journal kept is =
    kept_of_cores first journal kept entry.Committed kept.down refl (λ place. refl) LeavesSlices-committed
    (λ key. is.down_is key ∙ sym (is_down-left journal entry.Committed key LeavesCores-committed)) is

-- a split began
pub kept-begun : (first : List Slice) (journal : List Entry) (kept : Kept) (parent : SliceId) (subs : List SubSlice)
    → IsKept first journal kept
    → IsKept first (journal ++ entry.Begun parent subs ∷ [])
    (record kept { map = after kept.map (Change.Begun parent subs); split = Some parent; entries = kept.entries + 1 })
kept-begun first journal kept parent subs is =
    let one : Entry = entry.Begun parent subs in
    let change : Change = Change.Begun parent subs in
    kept_other first journal kept one (after kept.map change) (Some parent) kept.down refl (λ place. refl)
    (ap (λ slices. after slices change) is.map_is ∙ sym (map_after-push first journal one change refl))
    (sym (open_split-push journal one))
    (λ key. is.down_is key ∙ sym (is_down-left journal one key (LeavesCores-begun parent subs))) is

-- it was switched
pub kept-switched : (first : List Slice) (journal : List Entry) (kept : Kept) (parent : SliceId) → IsKept first journal kept
    → IsKept first (journal ++ entry.Switched parent ∷ [])
    (record kept { map = after kept.map (Change.Switched parent); split = None; entries = kept.entries + 1 })
kept-switched first journal kept parent is =
    let one : Entry = entry.Switched parent in
    let change : Change = Change.Switched parent in
    kept_other first journal kept one (after kept.map change) None kept.down refl (λ place. refl)
    (ap (λ slices. after slices change) is.map_is ∙ sym (map_after-push first journal one change refl))
    (sym (open_split-push journal one))
    (λ key. is.down_is key ∙ sym (is_down-left journal one key (LeavesCores-switched parent))) is

-- it failed
pub kept-failed : (first : List Slice) (journal : List Entry) (kept : Kept) (parent : SliceId) → IsKept first journal kept
    → IsKept first (journal ++ entry.Failed parent ∷ [])
    (record kept { map = after kept.map (Change.Failed parent); split = None; entries = kept.entries + 1 })
kept-failed first journal kept parent is =
    let one : Entry = entry.Failed parent in
    let change : Change = Change.Failed parent in
    kept_other first journal kept one (after kept.map change) None kept.down refl (λ place. refl)
    (ap (λ slices. after slices change) is.map_is ∙ sym (map_after-push first journal one change refl))
    (sym (open_split-push journal one))
    (λ key. is.down_is key ∙ sym (is_down-left journal one key (LeavesCores-failed parent))) is

-- a slice was dropped
pub kept-dropped : (first : List Slice) (journal : List Entry) (kept : Kept) (slice : SliceId) → IsKept first journal kept
    → IsKept first (journal ++ entry.Dropped slice ∷ []) (record kept {
      map = after kept.map (Change.Dropped slice);
      down = filter (λ (other : CoreId). not (nat_eq other.slice.0 slice.0)) kept.down;
      entries = kept.entries + 1;
    })
kept-dropped first journal kept slice is =
    let one : Entry = entry.Dropped slice in
    let change : Change = Change.Dropped slice in
    kept_other first journal kept one (after kept.map change) kept.split
    (filter (λ (other : CoreId). not (nat_eq other.slice.0 slice.0)) kept.down) refl (λ place. refl)
    (ap (λ slices. after slices change) is.map_is ∙ sym (map_after-push first journal one change refl))
    (is.split_is ∙ sym (open_split-push journal one))
    (λ key. is_among-left key kept.down slice ∙ ap (λ b. not (nat_eq key.0 slice.0) && b) (is.down_is key)
    ∙ sym (is_down-push journal one key)) is

-- a core more is down
is_among-more : (journal : List Entry) (down : List CoreId) (core : CoreId) (one : Entry) (key : ℕ × ℕ)
    → is_among key down ≡ is_down journal key
    → is_down (journal ++ one ∷ []) key ≡ is_key key (key_of_core core) || is_down journal key
    → is_among key (down ++ core ∷ []) ≡ is_down (journal ++ one ∷ []) key
is_among-more journal down core one key same says =
    is_among-push key down core ∙ ap (λ b. is_key key (key_of_core core) || b) same ∙ sym says

pub kept-down : (first : List Slice) (journal : List Entry) (kept : Kept) (core : CoreId) → IsKept first journal kept
    → IsKept first (journal ++ entry.Down core ∷ []) (record kept { down = kept.down ++ core ∷ []; entries = kept.entries + 1 })
kept-down first journal kept core is =
    let one : Entry = entry.Down core in
    kept_of_cores first journal kept one (kept.down ++ core ∷ []) refl (λ place. refl) (LeavesSlices-down core)
    (λ key. is_among-more journal kept.down core one key (is.down_is key) (is_down-push journal one key)) is

-- one that takes the lead too
pub kept-led : (first : List Slice) (journal : List Entry) (kept : Kept) (core : CoreId) → IsKept first journal kept
    → IsKept first (journal ++ entry.Led core ∷ []) (record kept { down = kept.down ++ core ∷ []; entries = kept.entries + 1 })
kept-led first journal kept core is =
    let one : Entry = entry.Led core in
    kept_of_cores first journal kept one (kept.down ++ core ∷ []) refl (λ place. refl) (LeavesSlices-led core)
    (λ key. is_among-more journal kept.down core one key (is.down_is key) (is_down-push journal one key)) is

-- one came up
pub kept-up : (first : List Slice) (journal : List Entry) (kept : Kept) (core : CoreId) → IsKept first journal kept
    → IsKept first (journal ++ entry.Up core ∷ [])
    (record kept { down = filter (λ other. not (is_core other core)) kept.down; entries = kept.entries + 1 })
kept-up first journal kept core is =
    let one : Entry = entry.Up core in
    kept_of_cores first journal kept one (filter (λ other. not (is_core other core)) kept.down) refl (λ place. refl)
    (LeavesSlices-up core)
    (λ key. is_among-removed key kept.down core ∙ ap (λ b. not (is_key key (key_of_core core)) && b) (is.down_is key)
    ∙ sym (is_down-push journal one key)) is

-- the write at a place was settled, which is taken out of those that are not
pub kept-settled : (first : List Slice) (journal : List Entry) (kept : Kept) (place : ℕ) (left : BTreeSet ℕ)
    → ((other : ℕ) → contains nat_cmp left other ≡ cond (is_eq (nat_cmp place other)) false (contains nat_cmp kept.unsettled other))
    → IsKept first journal kept
    → IsKept first (journal ++ entry.Settled place ∷ []) (record kept { unsettled = left; entries = kept.entries + 1 })
kept-settled first journal kept place left taken is =
    let one : Entry = entry.Settled place in record {
      map_is = is.map_is ∙ sym (map_after-left first journal one (LeavesSlices-settled place));
      split_is = is.split_is ∙ sym (open_split-left journal one (LeavesSlices-settled place));
      newest_is = λ id. is.newest_is id ∙ sym (last_version-left journal one id refl);
      writes_are = is.writes_are ∙ sym (ap length (writes-push_other journal one refl));
      unsettled_is = λ other. taken other ∙ ap (λ b. cond b false (contains nat_cmp kept.unsettled other)) (sym (unsigned_ties place other))
          ∙ ap (λ b. cond (eqb place other) false b) (is.unsettled_is other) ∙ sym (is_unsettled-settled journal place other);
      down_is = λ key. is.down_is key ∙ sym (is_down-left journal one key (LeavesCores-settled place));
      entries_are = longer journal one kept.entries is.entries_are;
    }

-- a write came: its place is put to those that are not settled, and its version to its id
pub kept-write : (first : List Slice) (journal : List Entry) (kept : Kept) (cell : _) → MayFollow first journal (entry.Write cell)
    → (id : List ℕ) (version : ℤ) (newest : BTreeMap (List ℕ) ℤ) (more : BTreeSet ℕ) → IsLegal first journal
    → id ≡ cell.value.id → version ≡ cell.value.version
    → ((other : List ℕ) → get (slice_cmp nat_cmp) newest other
    ≡ cond (is_eq (slice_cmp nat_cmp id other)) (Some version) (get (slice_cmp nat_cmp) kept.newest other))
    → ((other : ℕ) → contains nat_cmp more other ≡ cond (is_eq (nat_cmp kept.entries other)) true (contains nat_cmp kept.unsettled other))
    → IsKept first journal kept
    → IsKept first (journal ++ entry.Write cell ∷ [])
    (record kept { newest = newest; writes = kept.writes + 1; unsettled = more; entries = kept.entries + 1 })
kept-write first journal kept cell may id version newest more legal own_id own_version put added is =
    let one : Entry = entry.Write cell in record {
      map_is = is.map_is ∙ sym (map_after-left first journal one (LeavesSlices-write cell));
      split_is = is.split_is ∙ sym (open_split-left journal one (LeavesSlices-write cell));
      newest_is = λ other. put other
          ∙ ap (λ b. cond b (Some version) (get (slice_cmp nat_cmp) kept.newest other)) (is_eq-slice_cmp id other)
          ∙ ap (λ (i : List ℕ). cond (bytes_eq i other) (Some version) (get (slice_cmp nat_cmp) kept.newest other)) own_id
          ∙ ap (λ (v : ℤ). cond (bytes_eq cell.value.id other) (Some v) (get (slice_cmp nat_cmp) kept.newest other)) own_version
          ∙ ap (λ (v : Option ℤ). cond (bytes_eq cell.value.id other) (Some cell.value.version) v) (is.newest_is other)
          ∙ sym (last_version-write journal cell other);
      writes_are = let more_writes = ap length (writes-push_write journal cell) in
          omega (arith, is.writes_are, more_writes, length-append (writes journal) (arc_value cell ∷ []));
      unsettled_is = λ other. added other
          ∙ ap (λ b. cond b true (contains nat_cmp kept.unsettled other)) (sym (unsigned_ties kept.entries other))
          ∙ ap (λ (n : ℕ). cond (eqb n other) true (contains nat_cmp kept.unsettled other)) is.entries_are
          ∙ ap (λ b. cond (eqb (length journal) other) true b) (is.unsettled_is other)
          ∙ sym (is_unsettled-write first journal cell other legal);
      down_is = λ key. is.down_is key ∙ sym (is_down-left journal one key (LeavesCores-write cell));
      entries_are = longer journal one kept.entries is.entries_are;
    }

-- what was put and taken out again
undone : (old here : Bool) → (here ≡ true → old ≡ false) → cond here false (cond here true old) ≡ old
undone old true was = sym (was refl)
undone old false was = refl

-- where the write's place is put and taken out again, the same is kept
pub kept-undone : (first : List Slice) (journal : List Entry) (kept : Kept) (newest : BTreeMap (List ℕ) ℤ) (more left : BTreeSet ℕ)
    → newest.entries ≡ kept.newest.entries
    → ((other : ℕ) → contains nat_cmp more other ≡ cond (is_eq (nat_cmp kept.entries other)) true (contains nat_cmp kept.unsettled other))
    → ((other : ℕ) → contains nat_cmp left other ≡ cond (is_eq (nat_cmp kept.entries other)) false (contains nat_cmp more other))
    → IsKept first journal kept → IsKept first journal (record kept { newest = newest; unsettled = left })
kept-undone first journal kept newest more left same added taken is = record {
  map_is = is.map_is;
  split_is = is.split_is;
  newest_is = λ id. ap (λ (es : List (List ℕ × ℤ)). lookup (is_at (slice_cmp nat_cmp id)) es) same ∙ is.newest_is id;
  writes_are = is.writes_are;
  unsettled_is = λ other. taken other ∙ ap (λ b. cond (is_eq (nat_cmp kept.entries other)) false b) (added other)
      ∙ undone (contains nat_cmp kept.unsettled other) (is_eq (nat_cmp kept.entries other)) (λ here. was other here)
      ∙ is.unsettled_is other;
  down_is = is.down_is;
  entries_are = is.entries_are;
} where
  was : (other : ℕ) → is_eq (nat_cmp kept.entries other) ≡ true → contains nat_cmp kept.unsettled other ≡ false
  was other here =
      let same_place : kept.entries ≡ other = eqb-true kept.entries other (unsigned_ties kept.entries other ∙ here) in
      is.unsettled_is other ∙ ap (is_unsettled_at journal) (sym same_place ∙ is.entries_are) ∙ is_unsettled-end journal
