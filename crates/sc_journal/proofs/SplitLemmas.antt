-- What one entry more does to the slices of a journal, to its open split, and to what it owes.
use Rattle.std.proofs.Common.{◌≡◌, ℕ, ◌+◌, Bool, false, not, List, [], ◌∷◌, ◌++◌, length, Some, None, Option, refl, ap, ◌∙◌, arith, length-append}
use Rattle.std.specs.Prelude.{IsSome}
use Rattle.std.specs.List.{filter_map, cons_option, count_by}
use Rattle.std.proofs.Math.Path.{fun_ext}
use Rattle.std.proofs.lemmas.List.Elements.{filter_map-append}
use Rattle.std.proofs.lemmas.List.Sums.{fold-append}
use Rattle.sc_record.specs.declared.slice.SliceId.{SliceId}
use Rattle.sc_record.specs.declared.slice.CoreId.{CoreId}
use Rattle.sc_record.specs.declared.entry.Entry.{Entry}
use Rattle.sc_record.specs.declared.entry.Entry.TheVariants as entry
use Rattle.sc_cluster.specs.declared.slice.Slice.{Slice}
use Rattle.sc_cluster.specs.Changes.{Change, after}
use Rattle.sc_cluster.specs.Histories.{after_all}
use Rattle.sc_journal.specs.Journal.{write_at, is_settled, unsettled}
use Rattle.sc_cluster.specs.Slices.{is_inactive}
use Rattle.sc_journal.specs.Down.{all_followers, count_up}
use Rattle.sc_journal.specs.Splits.{map_change_of, map_after, split_after, open_split, owed_by_split, owed}
use Rattle.sc_journal.proofs.DownLemmas.{LeavesCores, LeavesCores-write, LeavesCores-settled, LeavesCores-committed, is_down-left}
use Rattle.sc_journal.proofs.SettledLemmas.{unsettled-push_write, length-unsettled-push_settled, unsettled-push_other}

-- changes one after another
pub after_all-append : (slices : List Slice) (changes more : List Change)
    → after_all slices (changes ++ more) ≡ after_all (after_all slices changes) more
after_all-append slices [] more = refl
after_all-append slices (change ∷ changes) more = after_all-append (after slices change) changes more

-- the map after two parts of a journal
pub map_after-append : (first : List Slice) (journal more : List Entry)
    → map_after first (journal ++ more) ≡ map_after (map_after first journal) more
map_after-append first journal more =
    ap (after_all first) (filter_map-append map_change_of journal more)
    ∙ after_all-append first (filter_map map_change_of journal) (filter_map map_change_of more)

-- an entry that changes the map does so at the end
pub map_after-push : (first : List Slice) (journal : List Entry) (one : Entry) (change : Change)
    → map_change_of one ≡ Some change → map_after first (journal ++ one ∷ []) ≡ after (map_after first journal) change
map_after-push first journal one change is =
    map_after-append first journal (one ∷ [])
    ∙ ap (λ (c : Option Change). after_all (map_after first journal) (cons_option c [])) is

-- one that doesn't leaves it
pub map_after-push_other : (first : List Slice) (journal : List Entry) (one : Entry)
    → map_change_of one ≡ None → map_after first (journal ++ one ∷ []) ≡ map_after first journal
map_after-push_other first journal one none =
    map_after-append first journal (one ∷ [])
    ∙ ap (λ (c : Option Change). after_all (map_after first journal) (cons_option c [])) none

-- the open split after one entry more: that of a write, of one that settles one, and of a commit is the one before
pub open_split-push : (journal : List Entry) (one : Entry)
    → open_split (journal ++ one ∷ []) ≡ split_after (open_split journal) one
open_split-push journal one = fold-append split_after None journal (one ∷ [])

-- what is owed of the open split and of inactive slices
abbrev pub owed_by_slices : List Slice → List Entry → ℕ
owed_by_slices first journal = owed_by_split (open_split journal) + count_by is_inactive (map_after first journal)

-- the entry changes no slice, and neither begins nor ends a split
pub record LeavesSlices (one : Entry) : Type 0 where
  pub no_change : map_change_of one ≡ None
  pub no_split : (split : Option SliceId) → split_after split one ≡ split

-- writes, entries that settle them, commits, and what is said of cores are such
pub LeavesSlices-write : (cell : _) → LeavesSlices (entry.Write cell)
LeavesSlices-write cell = record { no_change = refl; no_split = λ _. refl }

pub LeavesSlices-settled : (place : ℕ) → LeavesSlices (entry.Settled place)
LeavesSlices-settled place = record { no_change = refl; no_split = λ _. refl }

pub LeavesSlices-committed : LeavesSlices entry.Committed
LeavesSlices-committed = record { no_change = refl; no_split = λ _. refl }

pub LeavesSlices-down : (core : CoreId) → LeavesSlices (entry.Down core)
LeavesSlices-down core = record { no_change = refl; no_split = λ _. refl }

pub LeavesSlices-up : (core : CoreId) → LeavesSlices (entry.Up core)
LeavesSlices-up core = record { no_change = refl; no_split = λ _. refl }

pub LeavesSlices-led : (core : CoreId) → LeavesSlices (entry.Led core)
LeavesSlices-led core = record { no_change = refl; no_split = λ _. refl }

-- the map and the open split stay as they are
pub map_after-left : (first : List Slice) (journal : List Entry) (one : Entry) → LeavesSlices one
    → map_after first (journal ++ one ∷ []) ≡ map_after first journal
map_after-left first journal one leaves = map_after-push_other first journal one leaves.no_change

pub open_split-left : (journal : List Entry) (one : Entry) → LeavesSlices one
    → open_split (journal ++ one ∷ []) ≡ open_split journal
open_split-left journal one leaves = open_split-push journal one ∙ leaves.no_split (open_split journal)

pub owed_by_slices-left : (first : List Slice) (journal : List Entry) (one : Entry) → LeavesSlices one
    → owed_by_slices first (journal ++ one ∷ []) ≡ owed_by_slices first journal
owed_by_slices-left first journal one leaves =
    ap (λ split. owed_by_split split + count_by is_inactive (map_after first (journal ++ one ∷ [])))
    (open_split-left journal one leaves)
    ∙ ap (λ slices. owed_by_split (open_split journal) + count_by is_inactive slices)
    (map_after-left first journal one leaves)

-- after an entry that says nothing of any core as many followers of the same slices are not down
pub count_up-left : (slices : List Slice) (journal : List Entry) (one : Entry) → LeavesCores one
    → count_up slices (journal ++ one ∷ []) ≡ count_up slices journal
count_up-left slices journal one leaves =
    ap (λ (up : ℕ × ℕ → Bool). count_by up (all_followers slices))
    (fun_ext (λ (key : ℕ × ℕ). ap not (is_down-left journal one key leaves)))

-- and of the journal's slices, where it leaves those too
pub count_up-left_slices : (first : List Slice) (journal : List Entry) (one : Entry) → LeavesSlices one → LeavesCores one
    → count_up (map_after first (journal ++ one ∷ [])) (journal ++ one ∷ []) ≡ count_up (map_after first journal) journal
count_up-left_slices first journal one leaves leaves_cores =
    ap (λ slices. count_up slices (journal ++ one ∷ [])) (map_after-left first journal one leaves)
    ∙ count_up-left (map_after first journal) journal one leaves_cores

-- a write makes one entry more owed
pub owed-push_write : (first : List Slice) (journal : List Entry) (cell : _)
    → is_settled journal (length journal) ≡ false
    → owed first (journal ++ entry.Write cell ∷ []) ≡ owed first journal + 1
owed-push_write first journal cell fresh =
    let slices = owed_by_slices-left first journal (entry.Write cell) (LeavesSlices-write cell) in
    let up = count_up-left_slices first journal (entry.Write cell) (LeavesSlices-write cell) (LeavesCores-write cell) in
    let places = ap length (unsettled-push_write journal cell fresh)
    ∙ length-append (unsettled journal) (length journal ∷ []) in
    omega (arith, slices, up, places)

-- the entry that settles it one less
pub owed-push_settled : (first : List Slice) (journal : List Entry) (place : ℕ)
    → IsSome (write_at journal place) → is_settled journal place ≡ false
    → owed first (journal ++ entry.Settled place ∷ []) + 1 ≡ owed first journal
owed-push_settled first journal place written still =
    let slices = owed_by_slices-left first journal (entry.Settled place) (LeavesSlices-settled place) in
    let up = count_up-left_slices first journal (entry.Settled place) (LeavesSlices-settled place) (LeavesCores-settled place) in
    let places = length-unsettled-push_settled journal place written still in
    omega (arith, slices, up, places)

-- a commit changes nothing of it
pub owed-push_committed : (first : List Slice) (journal : List Entry)
    → owed first (journal ++ entry.Committed ∷ []) ≡ owed first journal
owed-push_committed first journal =
    let slices = owed_by_slices-left first journal entry.Committed LeavesSlices-committed in
    let up = count_up-left_slices first journal entry.Committed LeavesSlices-committed LeavesCores-committed in
    let places = ap length (unsettled-push_other journal entry.Committed refl (λ _. refl)) in
    omega (arith, slices, up, places)
