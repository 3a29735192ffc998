-- A legal journal that owes something may get an entry after which it owes less, and so it comes to rest.
use Rattle.std.proofs.Common.{◌≡◌, ℕ, zero, suc, ◌+◌, ◌<◌, ◌≤◌, Bool, true, false, not, cond, List, [], ◌∷◌, ◌++◌, length, Some, None, Option, All, Contains, refl, sym, ap, ◌∙◌, subst, arith}
use Rattle.std.specs.Prelude.{IsSome}
use Rattle.std.specs.List.{filter, count_by}
use Rattle.std.proofs.lemmas.Bool.{false≢true, eq-eqb}
use Rattle.std.proofs.lemmas.List.{append-nil}
use Rattle.std.proofs.lemmas.List.Elements.{All-nil, All-cons, All-weaker, All-contains_itself}
use Rattle.sc_record.specs.declared.slice.SliceId.{SliceId}
use Rattle.sc_record.specs.declared.entry.Entry.{Entry}
use Rattle.sc_record.specs.declared.entry.Entry.TheVariants as entry
use Rattle.sc_cluster.specs.declared.slice.State.{State}
use Rattle.sc_cluster.specs.declared.slice.State.TheVariants as states
use Rattle.sc_cluster.specs.declared.slice.Slice.{Slice}
use Rattle.sc_cluster.specs.Changes.{Change}
use Rattle.sc_cluster.proofs.CountLemmas.{count_by-cons, count_by-none}
use Rattle.sc_cluster.proofs.StateLemmas.{is_other}
use Rattle.sc_journal.specs.Journal.{write_at, is_settled, unsettled}
use Rattle.sc_cluster.specs.Slices.{is_inactive_state, is_inactive}
use Rattle.sc_journal.specs.Down.{count_up}
use Rattle.sc_journal.specs.Splits.{map_after, open_split, owed_by_split, owed}
use Rattle.sc_journal.specs.Legal.{MayFollow, IsLegal}
use Rattle.sc_journal.specs.Laws.{IsJournalAtRest, OwesNothingAtRest, closes, ComesToRest}
use Rattle.sc_journal.proofs.ListLemmas.{append-cons}
use Rattle.sc_journal.proofs.SettledLemmas.{unsettled_is, unsettled_from, unsettled-push_other, length-unsettled-push_settled}
use Rattle.sc_journal.proofs.OwedLemmas.{owed_by_slices-push_failed}
use Rattle.sc_journal.proofs.SplitLemmas.{map_after-push, open_split-push, owed_by_slices, owed_by_slices-left, LeavesSlices-settled}
use Rattle.sc_journal.proofs.LegalLemmas.{IsLegal-push}

-- where some elements are counted there is one
counted : {A : Type 0} (p : A → Bool) (xs : List A) → 0 < count_by p xs → (x : A) × Contains xs x × (p x ≡ true)
counted p [] some = absurd (omega arith)
counted {A} p (x ∷ xs) some = by (counted p xs) (p x) refl where
  by : (0 < count_by p xs → (y : A) × Contains xs y × (p y ≡ true)) → (t : Bool) → p x ≡ t
      → (y : A) × Contains (x ∷ xs) y × (p y ≡ true)
  by rest true is = (x, (0, omega arith, refl), is)
  by rest false is =
      let none : cond {A = ℕ} (p x) 1 0 ≡ 0 = rw is refl in
      let (y, (k, below, same), passes) = rest (omega (arith, some, count_by-cons p x xs, none)) in
      (y, (suc k, omega arith, same), passes)

-- a filter leaves no more of them
count-filter : {A : Type 0} (p q : A → Bool) (xs : List A) → count_by p (filter q xs) ≤ count_by p xs
count-filter p q [] = omega arith
count-filter p q (x ∷ xs) = by (q x) (count-filter p q xs) where
  by : (t : Bool) → count_by p (filter q xs) ≤ count_by p xs
      → count_by p (cond t (x ∷ filter q xs) (filter q xs)) ≤ count_by p (x ∷ xs)
  by true rest = omega (arith, count_by-cons p x xs, count_by-cons p x (filter q xs))
  by false rest = omega (arith, count_by-cons p x xs)

-- and fewer, where it takes one away
count-filter_less : {A : Type 0} (p q : A → Bool) (xs : List A) (x : A) → Contains xs x → p x ≡ true → q x ≡ false
    → count_by p (filter q xs) + 1 ≤ count_by p xs
count-filter_less p q [] x (k, below, same) is out = absurd (omega arith)
count-filter_less p q (y ∷ xs) x (zero, below, same) is out =
    let first : p y ≡ true = ap p same ∙ is in
    let left : q y ≡ false = ap q same ∙ out in
    let one : cond {A = ℕ} (p y) 1 0 ≡ 1 = rw first refl in
    let rest : filter q (y ∷ xs) ≡ filter q xs = ap (λ b. cond b (y ∷ filter q xs) (filter q xs)) left in
    omega (arith, ap (count_by p) rest, count_by-cons p y xs, one, count-filter p q xs)
count-filter_less p q (y ∷ xs) x (suc k, below, same) is out =
    by (q y) (count-filter_less p q xs x (k, omega arith, same) is out)
  where
    by : (t : Bool) → count_by p (filter q xs) + 1 ≤ count_by p xs
        → count_by p (cond t (y ∷ filter q xs) (filter q xs)) + 1 ≤ count_by p (y ∷ xs)
    by true rest = omega (arith, count_by-cons p y xs, count_by-cons p y (filter q xs))
    by false rest = omega (arith, count_by-cons p y xs)

-- nothing is counted where no element passes, and only there
none_counted : {A : Type 0} (p : A → Bool) (xs : List A) → count_by p xs ≡ 0 → All (λ x. p x ≡ false) xs
none_counted {A} p xs none =
    All-weaker (Contains xs) (λ x. p x ≡ false) fails xs (All-contains_itself xs)
  where
    fails : (x : A) → Contains xs x → p x ≡ false
    fails x there = by (p x) refl where
      by : (t : Bool) → p x ≡ t → p x ≡ false
      by false is = is
      by true is =
          absurd (omega (arith, none, count-filter_less p (λ y. not (p y)) xs x there is (ap not is)))

-- how many entries bring a journal to rest at most
abbrev pub owed_to_rest : List Slice → List Entry → ℕ
owed_to_rest first journal = length (unsettled journal) + owed_by_slices first journal

-- what is owed besides them is one entry of each follower that is not down
pub owed_is : (first : List Slice) (journal : List Entry)
    → owed first journal ≡ owed_to_rest first journal + count_up (map_after first journal) journal
owed_is first journal = omega arith

-- the entry closes something and may come next, and the journal is nearer to rest after it
pub record OwesLess (first : List Slice) (journal : List Entry) (one : Entry) : Type 0 where
  pub may : MayFollow first journal one
  pub closing : closes one ≡ true
  pub less : owed_to_rest first (journal ++ one ∷ []) + 1 ≤ owed_to_rest first journal

-- the entry that settles the first write that is not settled
settles_next : (first : List Slice) (journal : List Entry) (place : ℕ) → Contains (unsettled journal) place
    → OwesLess first journal (entry.Settled place)
settles_next first journal place there =
    let (written, once) = unsettled_is journal place there in
    let slices = owed_by_slices-left first journal (entry.Settled place) (LeavesSlices-settled place) in
    let places = length-unsettled-push_settled journal place written once in
    record { may = record { written = written; once = once }; closing = refl; less = omega (arith, slices, places) }

-- the entry that gives the open split up
gives_up : (first : List Slice) (journal : List Entry) (parent : SliceId) → open_split journal ≡ Some parent
    → OwesLess first journal (entry.Failed parent)
gives_up first journal parent opened =
    let places = ap length (unsettled-push_other journal (entry.Failed parent) refl (λ _. refl)) in
    let fewer = owed_by_slices-push_failed first journal parent opened in
    record { may = opened; closing = refl; less = omega (arith, places, fewer) }

-- an inactive slice by its state
inactive_from_test : (state : State) → is_inactive_state state ≡ true → state ≡ states.Inactive
inactive_from_test states.Inactive is = refl
inactive_from_test states.Active is = absurd (false≢true is)
inactive_from_test states.Construction is = absurd (false≢true is)
inactive_from_test states.Recovery is = absurd (false≢true is)

-- the entry that drops a slice, where no split is open
drops_next : (first : List Slice) (journal : List Entry) (slice : Slice) → open_split journal ≡ None
    → Contains (map_after first journal) slice → is_inactive slice ≡ true
    → OwesLess first journal (entry.Dropped slice.id)
drops_next first journal slice idle there inactive =
    let one : Entry = entry.Dropped slice.id in
    let slices = map_after first journal in
    let places = ap length (unsettled-push_other journal one refl (λ _. refl)) in
    let still = ap owed_by_split (open_split-push journal one) in
    let left = ap (count_by is_inactive) (map_after-push first journal one (Change.Dropped slice.id) refl) in
    let own : is_other slice.id slice ≡ false = ap not (eq-eqb slice.id.0 slice.id.0 refl) in
    let fewer = count-filter_less is_inactive (is_other slice.id) slices slice there inactive own in
    record {
      may = record { idle = idle; inactive = (slice, there, refl, inactive_from_test slice.state inactive) };
      closing = refl;
      less = omega (arith, places, still, left, fewer);
    }

-- what is not at rest may get an entry after which it is nearer to rest
pub owes_less : (first : List Slice) (journal : List Entry) → 0 < owed_to_rest first journal
    → (one : Entry) × OwesLess first journal one
owes_less first journal some = by (unsettled journal) refl (open_split journal) refl where
  by : (places : List ℕ) → unsettled journal ≡ places → (split : Option SliceId) → open_split journal ≡ split
      → (one : Entry) × OwesLess first journal one
  by (place ∷ places) is split split_is =
      let there : Contains (unsettled journal) place =
      subst (λ (these : List ℕ). Contains these place) (sym is) (0, omega arith, refl) in
      (entry.Settled place, settles_next first journal place there)
  by [] is (Some parent) split_is = (entry.Failed parent, gives_up first journal parent split_is)
  by [] is None split_is =
      let places = ap length is in
      let split = ap owed_by_split split_is in
      let found = counted is_inactive (map_after first journal) (omega (arith, some, places, split)) in
      (entry.Dropped found.0.id, drops_next first journal found.0 split_is found.1 found.2)

-- nothing is left to bring it to rest: no write is unsettled, no split is open, and no slice is inactive
pub at_rest : (first : List Slice) (journal : List Entry) → owed_to_rest first journal ≡ 0 → IsJournalAtRest first journal
at_rest first journal nothing = record {
  settled = λ place written. settled place written (is_settled journal place) refl;
  ended = ended (open_split journal) refl;
  dropped = none_counted is_inactive (map_after first journal) (omega (arith, nothing));
} where
  settled : (place : ℕ) → IsSome (write_at journal place) → (b : Bool) → is_settled journal place ≡ b
      → is_settled journal place ≡ true
  settled place written true is = is
  settled place written false is =
      let (k, below, same) = unsettled_from journal place written is in
      absurd (omega (arith, nothing))

  ended : (split : Option SliceId) → open_split journal ≡ split → open_split journal ≡ None
  ended None is = is
  ended (Some parent) is =
      let two = ap owed_by_split is in
      absurd (omega (arith, nothing, two))

nothing_owed : (first : List Slice) (journal : List Entry) → IsJournalAtRest first journal → owed_to_rest first journal ≡ 0
nothing_owed first journal rest =
    let places = none (unsettled journal) refl in
    let split = ap owed_by_split rest.ended in
    let slices = count_by-none is_inactive (map_after first journal) rest.dropped in
    omega (arith, places, split, slices)
  where
    none : (places : List ℕ) → unsettled journal ≡ places → length (unsettled journal) ≡ 0
    none [] is = ap length is
    none (place ∷ places) is =
        let there : Contains (unsettled journal) place =
        subst (λ (these : List ℕ). Contains these place) (sym is) (0, omega arith, refl) in
        let (written, once) = unsettled_is journal place there in
        absurd (false≢true (sym once ∙ rest.settled place written))

pub owes_nothing_at_rest : OwesNothingAtRest
owes_nothing_at_rest first journal = (
  λ no_more. at_rest first journal (omega (arith, no_more, owed_is first journal)),
  λ rest. omega (arith, nothing_owed first journal rest, owed_is first journal),
)

-- entry after entry it comes to rest
abbrev Rests : List Slice → List Entry → Type 0
Rests first journal = (more : List Entry) × IsLegal first (journal ++ more) × All (λ (one : Entry). closes one ≡ true) more
    × (length more ≤ owed_to_rest first journal) × IsJournalAtRest first (journal ++ more)

-- where nothing is left to be done it is
at_once : (first : List Slice) (journal : List Entry) → IsLegal first journal → owed_to_rest first journal ≡ 0
    → Rests first journal
at_once first journal legal nothing = (
  [],
  subst (IsLegal first) (sym (append-nil journal)) legal,
  All-nil (λ (one : Entry). closes one ≡ true),
  omega arith,
  subst (IsJournalAtRest first) (sym (append-nil journal)) (at_rest first journal nothing),
)

-- and elsewhere one entry more brings it nearer
after_one : (first : List Slice) (journal : List Entry) (one : Entry) → OwesLess first journal one
    → Rests first (journal ++ one ∷ []) → Rests first journal
after_one first journal one next (more, legal, closing, few, rest) =
    let less = next.less in
    let joined : (journal ++ one ∷ []) ++ more ≡ journal ++ one ∷ more = append-cons journal one more in (
      one ∷ more,
      subst (IsLegal first) joined legal,
      All-cons (λ (e : Entry). closes e ≡ true) one more next.closing closing,
      omega (arith, few, less),
      subst (IsJournalAtRest first) joined rest,
    )

rests : (n : ℕ) (first : List Slice) (journal : List Entry) → owed_to_rest first journal ≤ n → IsLegal first journal
    → Rests first journal
rests zero first journal most legal = at_once first journal legal (omega (arith, most))
rests (suc n) first journal most legal = by (rests n first) (owed_to_rest first journal) refl where
  by : ((longer : List Entry) → owed_to_rest first longer ≤ n → IsLegal first longer → Rests first longer)
      → (m : ℕ) → owed_to_rest first journal ≡ m → Rests first journal
  by later zero is = at_once first journal legal is
  by later (suc m) is =
      let (one, next) = owes_less first journal (omega (arith, is)) in
      let less = next.less in
      after_one first journal one next
      (later (journal ++ one ∷ []) (omega (arith, less, most)) (IsLegal-push first journal one legal next.may))

pub comes_to_rest : ComesToRest
comes_to_rest first journal legal =
    let (more, more_legal, closing, few, rest) =
    rests (owed_to_rest first journal) first journal (omega arith) legal in
    (more, more_legal, closing, omega (arith, few, owed_is first journal), rest)
