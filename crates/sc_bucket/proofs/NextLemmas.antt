-- The rows that a slice's searcher shows, after what was written in the slice's range since the last commit, are its leader's cells.
use Rattle.std.proofs.Common.{◌≡◌, ◌∙◌, ◌≤◌, ◌^◌, ◌⊎◌, inl, inr, ℕ, ℤ, Bool, true, false, cond, List, [], ◌∷◌, ◌++◌, length, find, map, Option, Some, None, refl, sym, ap, subst, All, Contains, arith}
use Rattle.std.specs.Prelude.{is_some, if◌then◌else◌, Result, Ok, Err, IfOk}
use Rattle.std.specs.List.{filter}
use Rattle.std.specs.declared.alloc.AllocError.{AllocError}
use Rattle.std.proofs.lemmas.List.{append-nil, append_assoc}
use Rattle.std.proofs.lemmas.List.Elements.{All-head, All-tail, All-contains, All-contains_itself, All-filter, All-weaker, Contains-append_right, filter-append, filter_passes}
use Rattle.std.proofs.lemmas.Option.{none-some}
use Rattle.sc_hash.specs.Range.{IsWithin}
use Rattle.sc_hash.proofs.BoundsLemmas.{contains-Decides}
use Rattle.sc_router.specs.Route.{route_hash}
use Rattle.sc_record.specs.Writes.{Write, is_of, write_of, AscendById}
use Rattle.sc_record.specs.declared.entry.Entry.{Entry}
use Rattle.sc_hash.specs.Bounds.{bounds, contains}
use Rattle.sc_snapshot.specs.Rows.{SnapshotState, AreRows, AreChanged, is_within}
use Rattle.sc_cluster.specs.declared.slice.State.TheVariants as states
use Rattle.sc_cluster.specs.declared.slice.Slice.{Slice}
use Rattle.sc_cluster.proofs.ListLemmas.{Contains-from_filter}
use Rattle.sc_replica.specs.Core.{Core}
use Rattle.sc_replica.proofs.ConvergeLemmas.{same-cells}
use Rattle.sc_journal.specs.Journal.{writes, last_of}
use Rattle.sc_journal.specs.Committed.{committed}
use Rattle.sc_journal.specs.Legal.{IsLegal}
use Rattle.sc_journal.proofs.ListLemmas.{last_of-append, last_of_cases}
use Rattle.sc_journal.proofs.JournalLemmas.{id_from_is_of}
use Rattle.sc_journal.proofs.LegalLemmas.{legal_hash}
use Rattle.sc_bucket.specs.Entries.{uncommitted}
use Rattle.sc_replicas.specs.Cores.{IsCoreWithoutRoom, IsLeaderOf}
use Rattle.sc_replicas.specs.Searchers.{standing_rows}
use Rattle.sc_bucket.specs.Searchers.{ShowsCommitted}
use Rattle.sc_bucket.specs.Taking.{AreChangesOf, AreCommittedOf, AreLastOf, IsLastOf, IsOfLeader}
use Rattle.sc_bucket.specs.Sound.{IsInRange, HasLastWrites, Serves, AreWritten, AreInRange, IsSound}
use Rattle.sc_bucket.specs.declared.bucket.Bucket.{Bucket}
use Rattle.sc_replicas.specs.declared.standing.Standing.{Standing}
use Rattle.sc_bucket.proofs.CommitLemmas.{AreRows-sound}
use Rattle.sc_bucket.proofs.SearcherLemmas.{AreLed-from_keys, no_rows}
use Rattle.sc_bucket.proofs.TakenLemmas.{Contains-slice_get}
use Rattle.sc_bucket.proofs.UncommittedLemmas.{writes-committed}
use Rattle.sc_bucket.proofs.WriteLemmas.{Contains-find}

-- what passes the one test passes the other
abbrev pub Implies : {A : Type 0} → (p q : A → Bool) → A → Type 0
Implies p q x = p x ≡ true → q x ≡ true

-- so the other leaves out none of those that pass the one
pub filter_implied : {A : Type 0} (p q : A → Bool) (xs : List A) → All (Implies p q) xs → filter p (filter q xs) ≡ filter p xs
filter_implied p q [] implied = refl
filter_implied {A} p q (x ∷ xs) implied =
    by (q x) (p x) refl refl (All-head (Implies p q) x xs implied) (filter_implied p q xs (All-tail (Implies p q) x xs implied)) where
      by : (b c : Bool) → q x ≡ b → p x ≡ c → (p x ≡ true → q x ≡ true) → filter p (filter q xs) ≡ filter p xs
          → filter p (cond b (x ∷ filter q xs) (filter q xs)) ≡ cond c (x ∷ filter p xs) (filter p xs)
      by true true kept is given rest = rw is (ap (λ these. x ∷ these) rest)
      by true false kept is given rest = rw is rest
      by false true kept is given rest = let both : true ≡ false = sym (given is) ∙ kept in absurd (cc)
      by false false kept is given rest = rest

-- the last of two lists is that of the second, where it has one
last_of-lists : {A : Type 0} (xs ys : List A) → last_of (xs ++ ys) ≡ (if is_some (last_of ys) then last_of ys else last_of xs)
last_of-lists {A} xs ys = by (last_of_cases ys) where
  by : ((ys ≡ []) × (last_of ys ≡ None)) ⊎ ((init : List A) × (y : A) × (ys ≡ init ++ y ∷ []) × (last_of ys ≡ Some y))
      → last_of (xs ++ ys) ≡ (if is_some (last_of ys) then last_of ys else last_of xs)
  by (inl (none, last)) =
      ap (λ (these : List A). last_of (xs ++ these)) none ∙ ap last_of (append-nil xs)
      ∙ ap (λ (found : Option A). if is_some found then found else last_of xs) (sym last)
  by (inr (init, y, ends, last)) =
      ap (λ (these : List A). last_of (xs ++ these)) ends ∙ ap last_of (sym (append_assoc xs init (y ∷ []))) ∙ last_of-append (xs ++ init) y
      ∙ ap (λ (found : Option A). if is_some found then found else last_of xs) (sym last)

-- what is found in a list passes
find-passes : {X : Type 0} (p : X → Bool) (xs : List X) (x : X) → find p xs ≡ Some x → p x ≡ true
find-passes p [] x is = absurd (none-some x is)
find-passes {X} p (y ∷ ys) x is = by (p y) refl (find-passes p ys x) is where
  by : (b : Bool) → p y ≡ b → (find p ys ≡ Some x → p x ≡ true) → cond b (Some y) (find p ys) ≡ Some x → p x ≡ true
  by true passes rest found = let same : y ≡ x = cc in ap p (sym same) ∙ passes
  by false fails rest found = rest found

-- the write is one of the journal and of this id, with a hash in the slice's range
record IsOneOf (journal : List Entry) (slice : Slice) (id : List ℕ) (cell : Write) : Type 0 where
  there : Contains (writes journal) cell
  within : IsInRange slice cell
  of_id : is_of id cell ≡ true

-- of an id whose hash is not in the slice's range there is no such write of a legal journal
none_outside : (first : List Slice) (journal : List Entry) (slice : Slice) (id : List ℕ) (found : Option Write) → IsLegal first journal
    → contains (route_hash id) (bounds slice.range) ≡ false
    → ((cell : Write) → found ≡ Some cell → IsOneOf journal slice id cell) → found ≡ None
none_outside first journal slice id None legal out one = refl
none_outside first journal slice id (Some cell) legal out one =
    let is = one cell refl in
    let hash : cell.hash ≡ route_hash id = legal_hash first journal cell legal is.there ∙ ap route_hash (id_from_is_of id cell is.of_id) in
    let passes : contains (route_hash id) (bounds slice.range) ≡ true =
    (contains-Decides (route_hash id) slice.range.min slice.range.max).1
    (subst (IsWithin slice.range.min slice.range.max) hash is.within) in
    let both : true ≡ false = sym passes ∙ out in
    absurd (cc)

-- nor is one found among writes whose hashes are in the range
pub find-outside : (first : List Slice) (journal : List Entry) (slice : Slice) (found : List Write) (id : List ℕ) → IsLegal first journal
    → All (Contains (writes journal)) found → All (IsInRange slice) found
    → contains (route_hash id) (bounds slice.range) ≡ false → write_of found id ≡ None
find-outside first journal slice found id legal written within out =
    none_outside first journal slice id (write_of found id) legal out (λ cell is.
    let there : Contains found cell = Contains-find (is_of id) found cell is in
    record {
      there = All-contains (Contains (writes journal)) found cell written there;
      within = All-contains (IsInRange slice) found cell within there;
      of_id = find-passes (is_of id) found cell is;
    })

-- the writes that are not committed are writes of the journal
uncommitted-written : (journal : List Entry) → All (Contains (writes journal)) (uncommitted journal)
uncommitted-written journal =
    All-weaker (Contains (uncommitted journal)) (Contains (writes journal))
    (λ one there. subst (λ (all : List Write). Contains all one) (sym (writes-committed journal))
    (Contains-append_right (writes (committed journal)) (uncommitted journal) one there))
    (uncommitted journal) (All-contains_itself (uncommitted journal))

-- of an id whose hash is not in the range none of those of the range is the last
last-outside : (first : List Slice) (journal : List Entry) (slice : Slice) (id : List ℕ) → IsLegal first journal
    → contains (route_hash id) (bounds slice.range) ≡ false
    → last_of (filter (is_of id) (filter (is_within slice.range) (uncommitted journal))) ≡ None
last-outside first journal slice id legal out =
    none_outside first journal slice id _ legal out (λ cell is.
    let these : List Write = filter (is_within slice.range) (uncommitted journal) in
    let of = Contains-from_filter (is_of id) these cell (Contains-slice_get (filter (is_of id) these) _ cell is) in
    let there = Contains-from_filter (is_within slice.range) (uncommitted journal) cell of.0 in
    record {
      there = All-contains (Contains (writes journal)) (uncommitted journal) cell (uncommitted-written journal) there.0;
      within = (contains-Decides cell.hash slice.range.min slice.range.max).0 there.1;
      of_id = of.1;
    })

-- and of one whose hash is, each is one of the range
last-inside : (first : List Slice) (journal : List Entry) (slice : Slice) (id : List ℕ) → IsLegal first journal
    → contains (route_hash id) (bounds slice.range) ≡ true
    → last_of (filter (is_of id) (filter (is_within slice.range) (uncommitted journal))) ≡ last_of (filter (is_of id) (uncommitted journal))
last-inside first journal slice id legal inside =
    ap last_of (filter_implied (is_of id) (is_within slice.range) (uncommitted journal)
    (All-weaker (Contains (writes journal)) (Implies (is_of id) (is_within slice.range))
    (λ one there is. ap (λ (hash : ℤ). contains hash (bounds slice.range))
    (legal_hash first journal one legal there ∙ ap route_hash (id_from_is_of id one is)) ∙ inside)
    (uncommitted journal) (uncommitted-written journal)))

-- the core's cells are the last writes of the slice, and no others
pub record HasItsCells (journal : List Entry) (slice : Slice) (core : Core) : Type 0 where
  pub has : HasLastWrites journal slice core
  pub ascends : AscendById core.cells
  pub written : All (Contains (writes journal)) core.cells
  pub within : All (IsInRange slice) core.cells

-- rows that show what was committed of a slice, and have hashes of its range alone, are such a core's cells after these changes
rows_are_cells : (first : List Slice) (journal : List Entry) (slice : Slice) (old changes new : List Write) (core : Core)
    → IsLegal first journal → ShowsCommitted journal slice old → All (IsInRange slice) old → AreChangesOf journal slice changes
    → AscendById new → AreChanged old changes new → HasItsCells journal slice core → new ≡ core.cells
rows_are_cells first journal slice old changes new core legal shows within are ascend changed its =
    same-cells new core.cells ascend its.ascends (λ id. by id (contains (route_hash id) (bounds slice.range)) refl) where
      by : (id : List ℕ) (b : Bool) → contains (route_hash id) (bounds slice.range) ≡ b → write_of new id ≡ write_of core.cells id
      by id true is =
          let inside : IsWithin slice.range.min slice.range.max (route_hash id) =
          (contains-Decides (route_hash id) slice.range.min slice.range.max).0 is in
          let before : List Write = filter (is_of id) (writes (committed journal)) in
          let after : List Write = filter (is_of id) (uncommitted journal) in
          changed id
          ∙ ap (λ (found : Option Write). if is_some found then found else write_of old id) (are.last id ∙ last-inside first journal slice id legal is)
          ∙ ap (λ (found : Option Write). if is_some (last_of after) then last_of after else found) (shows.last id inside)
          ∙ sym (last_of-lists before after)
          ∙ ap last_of (sym (filter-append (is_of id) (writes (committed journal)) (uncommitted journal)))
          ∙ ap (λ (these : List Write). last_of (filter (is_of id) these)) (sym (writes-committed journal))
          ∙ sym (its.has id inside)
      by id false is =
          changed id
          ∙ ap (λ (found : Option Write). if is_some found then found else write_of old id) (are.last id ∙ last-outside first journal slice id legal is)
          ∙ find-outside first journal slice old id legal shows.written within is
          ∙ sym (find-outside first journal slice core.cells id legal its.written its.within is)

-- so are those of a core that leads an active slice of a sound bucket
pub its_leader : (b : Bucket) (slice : Slice) (core : Core) → IsSound b → Contains b.map slice → slice.state ≡ states.Active
    → Contains b.replicas core → IsLeaderOf slice.id core → HasItsCells b.journal.entries slice core
its_leader b slice core sound there active core_there leads =
    let entries : List Entry = b.journal.entries in
    let serves = All-contains (λ (one : Core). (s : Slice) → Contains b.map s → s.id ≡ one.core.slice → Serves entries s one)
    b.replicas core sound.leaders core_there slice there (sym leads.0) active leads.1 in
    let written = All-contains (AreWritten entries b.flight.messages b.feeds) b.replicas core sound.written core_there in
    let within = All-contains (λ (one : Core). (s : Slice) → Contains b.map s → s.id ≡ one.core.slice
    → AreInRange b.flight.messages b.feeds s one) b.replicas core sound.in_range core_there slice there (sym leads.0) in
    record {
      has = serves.1;
      ascends = (All-contains IsCoreWithoutRoom b.replicas core sound.in_order core_there).ascends;
      written = written.0;
      within = within.0;
    }

-- ---- what was committed of a slice
-- the rows of the slice's last searcher are writes of the journal, and show what was committed
last_shows : (b : Bucket) (slice : Slice) (last : Standing) → IsSound b → IsLastOf b slice last
    → ShowsCommitted b.journal.entries slice (standing_rows last)
last_shows b slice last sound is =
    (All-contains (λ (searcher : Standing). (s : Slice) → Contains b.map s → s.id ≡ searcher.slice
    → (searcher.range ≡ s.range) × ShowsCommitted b.journal.entries s (standing_rows searcher))
    b.searchers last sound.searchers.show is.kept slice is.there (sym is.of_slice)).1

-- where their hashes are in the slice's range they are all that was committed of it
pub AreCommittedOf-last : (b : Bucket) (slice : Slice) (last : Standing) → IsSound b → IsLastOf b slice last → All (IsInRange slice) (standing_rows last)
    → AreCommittedOf b slice (standing_rows last)
AreCommittedOf-last b slice last sound is within = record {
  there = is.there;
  active = is.active;
  shows = last_shows b slice last sound is;
  within = within;
}

-- what the one test finds passes the other, which leaves it there
find_implied : {A : Type 0} (p q : A → Bool) (xs : List A) → All (Implies p q) xs → find p (filter q xs) ≡ find p xs
find_implied p q [] implied = refl
find_implied {A} p q (x ∷ xs) implied =
    by (q x) (p x) refl refl (All-head (Implies p q) x xs implied) (find_implied p q xs (All-tail (Implies p q) x xs implied)) where
      by : (b c : Bool) → q x ≡ b → p x ≡ c → (p x ≡ true → q x ≡ true) → find p (filter q xs) ≡ find p xs
          → find p (cond b (x ∷ filter q xs) (filter q xs)) ≡ cond c (Some x) (find p xs)
      by true true kept is given rest = rw is refl
      by true false kept is given rest = rw is rest
      by false true kept is given rest = let both : true ≡ false = sym (given is) ∙ kept in absurd (cc)
      by false false kept is given rest = rest

-- else those of them whose hashes are
pub AreCommittedOf-within : (b : Bucket) (slice : Slice) (last : Standing) → IsSound b → IsLastOf b slice last
    → AreCommittedOf b slice (filter (is_within slice.range) (standing_rows last))
AreCommittedOf-within b slice last sound is =
    let entries : List Entry = b.journal.entries in
    let rows : List Write = standing_rows last in
    let test = is_within slice.range in
    let shows = last_shows b slice last sound is in
    record {
      there = is.there;
      active = is.active;
      shows = record {
        written = All-filter test (Contains (writes entries)) rows shows.written;
        last = λ id within.
            find_implied (is_of id) test rows
            (All-weaker (Contains (writes entries)) (Implies (is_of id) test)
            (λ one there of. ap (λ (hash : ℤ). contains hash (bounds slice.range))
            (legal_hash b.first entries one sound.journal.legal there ∙ ap route_hash (id_from_is_of id one of))
            ∙ (contains-Decides (route_hash id) slice.range.min slice.range.max).1 within)
            rows shows.written)
            ∙ shows.last id within;
      };
      within = All-weaker (λ (row : Write). test row ≡ true) (IsInRange slice)
          (λ row passes. (contains-Decides row.hash slice.range.min slice.range.max).0 passes) (filter test rows) (filter_passes test rows);
    }

-- ---- and after the changes
-- after the changes they are the cells of its leader
leader_has : (b : Bucket) (slice : Slice) (old changes rows : List Write) → IsSound b → AreCommittedOf b slice old
    → AreChangesOf b.journal.entries slice changes → AscendById rows
    → AreChanged old changes rows → (core : Core) × Contains b.replicas core × IsLeaderOf slice.id core × (rows ≡ core.cells)
leader_has b slice old changes rows sound is are ascend changed =
    let (core, there, leads) = AreLed-from_keys b.map b.replicas sound.cores.leaders slice is.there is.active in
    let its = its_leader b slice core sound is.there is.active there leads in (
      core,
      there,
      leads,
      rows_are_cells b.first b.journal.entries slice old changes rows core sound.journal.legal is.shows is.within are ascend changed its,
    )

-- so the snapshot of such rows is that of the leader
IsOfLeader-changed : (b : Bucket) (slice : Slice) (old changes : List Write) (snapshot : SnapshotState) → IsSound b
    → AreCommittedOf b slice old → AreChangesOf b.journal.entries slice changes
    → AscendById snapshot.rows → AreChanged old changes snapshot.rows → snapshot.place ≡ length b.journal.entries
    → IsOfLeader b slice snapshot
IsOfLeader-changed b slice old changes snapshot sound is are ascend changed here =
    let (core, there, leads, same) = leader_has b slice old changes snapshot.rows sound is are ascend changed in
    record {
      core = core;
      there = there;
      leader = leads;
      snapshot_is = ap (λ (n : ℕ). record { place = n; rows = snapshot.rows }) here
          ∙ ap (λ (cells : List Write). record { place = length b.journal.entries; rows = cells }) same;
    }

-- and there are not too many
pub bounded-changed : (b : Bucket) (slice : Slice) (old changes : List Write) → IsSound b → AreCommittedOf b slice old
    → AreChangesOf b.journal.entries slice changes
    → (rows : List Write) → AscendById rows → AreChanged old changes rows → length rows ≤ 2 ^ 24
bounded-changed b slice old changes sound is are rows ascend changed =
    let (core, there, leads, same) = leader_has b slice old changes rows sound is are ascend changed in
    let cells = All-contains (λ (one : Core). AreRows one.cells) b.replicas core (AreRows-sound b sound) there in
    subst (λ (these : List Write). length these ≤ 2 ^ 24) (sym same) cells.bounded

-- a list of no length is empty
pub no_cells : {C : Type 0} (value : C → Write) (cells : List C) → length cells ≡ 0 → map value cells ≡ []
no_cells value [] none = refl
no_cells value (cell ∷ cells) none = absurd (omega (arith, none))

-- where all writes are committed nothing changes in any slice
pub AreChangesOf-none : (journal : List Entry) (slice : Slice) → uncommitted journal ≡ [] → AreChangesOf journal slice []
AreChangesOf-none journal slice none = record {
  ascend = no_rows.ascend;
  last = subst (λ (these : List Write). AreLastOf (filter (is_within slice.range) these) []) (sym none) (λ id. refl);
}

-- where there are no changes it is of the same rows, at another place
pub IsOfLeader-same : (b : Bucket) (slice : Slice) (last : SnapshotState) (place : ℕ) (snapshot : SnapshotState) → IsSound b
    → AreCommittedOf b slice last.rows → AreChangesOf b.journal.entries slice []
    → AreRows last.rows → place ≡ length b.journal.entries → snapshot ≡ record last { place = place }
    → IsOfLeader b slice snapshot
IsOfLeader-same b slice last place snapshot sound is unchanged rows here same =
    let these : snapshot.rows ≡ last.rows = ap (λ (s : SnapshotState). s.rows) same in
    IsOfLeader-changed b slice last.rows [] snapshot sound is unchanged (subst AscendById (sym these) rows.ascend)
    (λ id. ap (λ (all : List Write). write_of all id) these)
    (ap (λ (s : SnapshotState). s.place) same ∙ here)

-- else it is the next one after them
pub IsOfLeader-next : (b : Bucket) (slice : Slice) (old changes : List Write) (place : ℕ) (next : Result SnapshotState AllocError)
    → IsSound b → AreCommittedOf b slice old → AreChangesOf b.journal.entries slice changes
    → place ≡ length b.journal.entries → IfOk next (λ (s : SnapshotState). s.place ≡ place) → IfOk next (λ (s : SnapshotState). AreRows s.rows)
    → IfOk next (λ (s : SnapshotState). AreChanged old changes s.rows) → IfOk next (IsOfLeader b slice)
IsOfLeader-next b slice old changes place (Err fault) sound is are here at rows changed = tt
IsOfLeader-next b slice old changes place (Ok snapshot) sound is are here at rows changed =
    IsOfLeader-changed b slice old changes snapshot sound is are rows.ascend changed (at ∙ here)
