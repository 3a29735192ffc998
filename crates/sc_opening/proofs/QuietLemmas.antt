-- The entries that close a journal add no write, and after them each write is settled.
use Rattle.std.proofs.Common.{◌≡◌, ℕ, zero, suc, ◌<◌, Bool, true, false, not, cond, eqb, List, [], ◌∷◌, ◌++◌, get_or, map, drop, Option, Some, None, All, refl, sym, ap, ◌∙◌, subst, arith}
use Rattle.std.specs.List.{filter}
use Rattle.std.specs.List.Sorted.{IsStrictlyIncreasing}
use Rattle.std.proofs.lemmas.Bool.{eqb-true, eq-eqb}
use Rattle.std.proofs.lemmas.List.{append-nil, append_assoc}
use Rattle.std.proofs.lemmas.List.Elements.{All-nil, All-cons, All-head, All-tail}
use Rattle.std.proofs.lemmas.List.Kept.{AllPairs-from_increasing}
use Rattle.sc_record.specs.declared.entry.Entry.{Entry}
use Rattle.sc_record.specs.declared.entry.Entry.TheVariants as entry
use Rattle.sc_cluster.specs.declared.plan.SplitPlan.{SplitPlan}
use Rattle.sc_journal.specs.Journal.{as_write, unsettled}
use Rattle.sc_journal.proofs.ListLemmas.{append-cons}
use Rattle.sc_journal.proofs.SettledLemmas.{SettlesNothing, unsettled-push_other, unsettled-push_settled, unsettled-ascends}
use Rattle.sc_opening.specs.declared.change.Change.{Change}
use Rattle.sc_opening.specs.declared.change.Change.TheVariants as change
use Rattle.sc_opening.specs.Changes.{open_begun}
use Rattle.sc_opening.specs.Closed.{entries_of, is_first, catching_up, missing, closed}
use Rattle.sc_opening.specs.Laws.{ClosedIsAtRest}
use Rattle.sc_opening.proofs.ChangeLemmas.{parent_of, open_split_is, open_begun_of_closed}

-- the entry is of the slices: it begins or ends a split, or drops a slice
abbrev pub is_of_slices : Entry → Bool
is_of_slices (entry.Begun parent subs) = true
is_of_slices (entry.Switched parent) = true
is_of_slices (entry.Failed parent) = true
is_of_slices (entry.Dropped slice) = true
is_of_slices _ = false

-- the entries are
abbrev pub AreOfSlices : List Entry → Type 0
AreOfSlices entries = All (λ (one : Entry). is_of_slices one ≡ true) entries

cons : (one : Entry) (entries : List Entry) → is_of_slices one ≡ true → AreOfSlices entries → AreOfSlices (one ∷ entries)
cons one entries is rest = All-cons (λ (one : Entry). is_of_slices one ≡ true) one entries is rest

pub AreOfSlices-entries : (done : List Change) → AreOfSlices (entries_of done)
AreOfSlices-entries [] = All-nil (λ (one : Entry). is_of_slices one ≡ true)
AreOfSlices-entries (change.Switched plan ∷ done) =
    let rest = AreOfSlices-entries done in
    let switched : Entry = entry.Switched plan.parent in
    cons (entry.Begun plan.parent plan.subs) (switched ∷ entries_of done) refl (cons switched (entries_of done) refl rest)
AreOfSlices-entries (change.Dropped slice ∷ done) = cons (entry.Dropped slice) (entries_of done) refl (AreOfSlices-entries done)

-- a journal catches up by such entries
pub AreOfSlices-catching_up : (running : Option SplitPlan) (done : List Change) → AreOfSlices (catching_up running done)
AreOfSlices-catching_up None done = AreOfSlices-entries done
AreOfSlices-catching_up (Some plan) done = by (is_first plan done) where
  by : (t : Bool)
      → AreOfSlices (cond t (entry.Switched plan.parent ∷ entries_of (drop 1 done)) (entry.Failed plan.parent ∷ entries_of done))
  by true = cons (entry.Switched plan.parent) (entries_of (drop 1 done)) refl (AreOfSlices-entries (drop 1 done))
  by false = cons (entry.Failed plan.parent) (entries_of done) refl (AreOfSlices-entries done)

-- such an entry is no write, and settles none
pub no_write_of_slices : (one : Entry) → is_of_slices one ≡ true → as_write one ≡ None
no_write_of_slices (entry.Write cell) is = absurd (cc)
no_write_of_slices (entry.Settled place) is = refl
no_write_of_slices entry.Committed is = refl
no_write_of_slices (entry.Begun parent subs) is = refl
no_write_of_slices (entry.Switched parent) is = refl
no_write_of_slices (entry.Failed parent) is = refl
no_write_of_slices (entry.Dropped slice) is = refl
no_write_of_slices (entry.Down core) is = refl
no_write_of_slices (entry.Up core) is = refl
no_write_of_slices (entry.Led core) is = refl

settles_none_of_slices : (one : Entry) → is_of_slices one ≡ true → SettlesNothing one
settles_none_of_slices (entry.Write cell) is place = refl
settles_none_of_slices (entry.Settled settled) is place = absurd (cc)
settles_none_of_slices entry.Committed is place = refl
settles_none_of_slices (entry.Begun parent subs) is place = refl
settles_none_of_slices (entry.Switched parent) is place = refl
settles_none_of_slices (entry.Failed parent) is place = refl
settles_none_of_slices (entry.Dropped slice) is place = refl
settles_none_of_slices (entry.Down core) is place = refl
settles_none_of_slices (entry.Up core) is place = refl
settles_none_of_slices (entry.Led core) is place = refl

-- they leave the writes that are not settled
pub unsettled-of_slices : (journal more : List Entry) → AreOfSlices more → unsettled (journal ++ more) ≡ unsettled journal
unsettled-of_slices journal [] are = ap unsettled (append-nil journal)
unsettled-of_slices journal (one ∷ more) are =
    let P = λ (one : Entry). is_of_slices one ≡ true in
    let is = All-head P one more are in
    ap unsettled (sym (append-cons journal one more))
    ∙ unsettled-of_slices (journal ++ one ∷ []) more (All-tail P one more are)
    ∙ unsettled-push_other journal one (no_write_of_slices one is) (settles_none_of_slices one is)

-- ---- settling
-- a filter leaves a list all of whose items pass
filter_same : {A : Type 0} (p : A → Bool) (xs : List A) → All (λ x. p x ≡ true) xs → filter p xs ≡ xs
filter_same p [] all = refl
filter_same {A} p (x ∷ xs) all = rw (All-head (λ x. p x ≡ true) x xs all) (ap (λ ys. x ∷ ys) (filter_same p xs (All-tail (λ x. p x ≡ true) x xs all)))

-- of numbers that ascend only the first is the first
filter_out_first : (place : ℕ) (places : List ℕ) → IsStrictlyIncreasing (place ∷ places)
    → filter (λ p. not (eqb p place)) (place ∷ places) ≡ places
filter_out_first place places up =
    let pairs = AllPairs-from_increasing (place ∷ places) up in
    let above : All (λ (p : ℕ). not (eqb p place) ≡ true) places =
    λ k d within. other (get_or places k d) (pairs zero (suc k) d (omega arith) (omega arith)) in
    let itself : eqb place place ≡ true = eq-eqb place place refl in
    rw itself (filter_same (λ p. not (eqb p place)) places above)
  where
    other : (p : ℕ) → place < p → not (eqb p place) ≡ true
    other p less = by (eqb p place) refl where
      by : (t : Bool) → eqb p place ≡ t → not t ≡ true
      by false is = refl
      by true is = let same = eqb-true p place is in absurd (omega (arith, same, less))

-- once the first place is settled the others are left
pub unsettled-settle_first : (journal : List Entry) (place : ℕ) (places : List ℕ) → unsettled journal ≡ place ∷ places
    → unsettled (journal ++ entry.Settled place ∷ []) ≡ places
unsettled-settle_first journal place places is =
    unsettled-push_settled journal place
    ∙ ap (filter (λ p. not (eqb p place))) is
    ∙ filter_out_first place places (subst IsStrictlyIncreasing is (unsettled-ascends journal))

-- once all are settled none is left
pub unsettled-settle_all : (journal : List Entry) (places : List ℕ) → unsettled journal ≡ places
    → unsettled (journal ++ map entry.Settled places) ≡ []
unsettled-settle_all journal [] is = ap unsettled (append-nil journal) ∙ is
unsettled-settle_all journal (place ∷ places) is =
    ap unsettled (sym (append-cons journal (entry.Settled place) (map entry.Settled places)))
    ∙ unsettled-settle_all (journal ++ entry.Settled place ∷ []) places (unsettled-settle_first journal place places is)

-- the journal once it caught up
abbrev pub caught_up : List Entry → List Change → List Entry
caught_up journal done = journal ++ catching_up (open_begun journal) (missing journal done)

pub closed_is : (journal : List Entry) (done : List Change)
    → caught_up journal done ++ map entry.Settled (unsettled journal) ≡ closed journal done
closed_is journal done =
    append_assoc journal (catching_up (open_begun journal) (missing journal done)) (map entry.Settled (unsettled journal))

pub unsettled_of_caught_up : (journal : List Entry) (done : List Change) → unsettled (caught_up journal done) ≡ unsettled journal
unsettled_of_caught_up journal done =
    let running = open_begun journal in
    let lacks = missing journal done in
    unsettled-of_slices journal (catching_up running lacks) (AreOfSlices-catching_up running lacks)

pub unsettled_of_closed : (journal : List Entry) (done : List Change) → unsettled (closed journal done) ≡ []
unsettled_of_closed journal done =
    ap unsettled (sym (closed_is journal done))
    ∙ unsettled-settle_all (caught_up journal done) (unsettled journal) (unsettled_of_caught_up journal done)

pub closed_is_at_rest : ClosedIsAtRest
closed_is_at_rest journal done =
    let none = open_begun_of_closed journal done in
    record {
      no_split = open_split_is (closed journal done) ∙ ap parent_of none;
      no_plan = none;
      all_settled = unsettled_of_closed journal done;
    }
