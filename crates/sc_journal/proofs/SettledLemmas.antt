-- What one entry more does to the places of a journal that are not settled.
use Rattle.std.proofs.Common.{All, ◌≡◌, ℕ, ◌+◌, ◌<◌, Bool, true, false, not, ◌&&◌, ◌||◌, cond, eqb, List, [], ◌∷◌, ◌++◌, length, get_or, map, Some, None, Option, refl, sym, ap, ◌∙◌, subst, Contains, slice_get, arith, zero-add}
use Rattle.std.specs.Prelude.{IsSome, is_some}
use Rattle.std.specs.List.{filter, enumerate_from}
use Rattle.std.specs.List.Sorted.{IsStrictlyIncreasing}
use Rattle.std.specs.Option.{option_and_then}
use Rattle.std.proofs.lemmas.Bool.{eq-eqb, eqb-true}
use Rattle.std.proofs.lemmas.List.{append-nil, map-append, length-map, get_or-map}
use Rattle.std.proofs.lemmas.List.Elements.{All-weaker, All-contains_itself, filter-append, filter_agree, Contains-get_or}
use Rattle.std.proofs.lemmas.List.Folds.{list_any-append}
use Rattle.std.proofs.lemmas.List.FromFn.{length-enumerate_from, get_or-enumerate_from}
use Rattle.std.proofs.lemmas.Option.{slice_get-get_or, slice_get_within, get_or_from_slice_get}
use Rattle.sc_record.specs.Writes.{Write}
use Rattle.sc_record.specs.declared.entry.Entry.{Entry}
use Rattle.sc_record.specs.declared.entry.Entry.TheVariants as entry
use Rattle.sc_cluster.proofs.ListLemmas.{Contains-map, Contains-filter, Contains-from_filter}
use Rattle.sc_cluster.proofs.OrderLemmas.{IsStrictlyIncreasing-map-filter, IsStrictlyIncreasing-counted}
use Rattle.sc_journal.specs.Journal.{as_write, write_at, settles, is_settled, is_unsettled, unsettled}
use Rattle.sc_journal.proofs.JournalLemmas.{write_at_within}
use Rattle.sc_journal.proofs.ListLemmas.{enumerate_from-append, map-filter_and, length-filter_out}

or_false : (b : Bool) → b || false ≡ b
or_false true = refl
or_false false = refl

-- an entry more settles what it settles
pub is_settled-push : (journal : List Entry) (one : Entry) (place : ℕ)
    → is_settled (journal ++ one ∷ []) place ≡ is_settled journal place || settles place one
is_settled-push journal one place =
    list_any-append (settles place) journal (one ∷ [])
    ∙ ap (λ b. is_settled journal place || b) (or_false (settles place one))

-- the entry settles no place
abbrev pub SettlesNothing : Entry → Type 0
SettlesNothing one = (place : ℕ) → settles place one ≡ false

pub is_settled-push_other : (journal : List Entry) (one : Entry) (place : ℕ) → SettlesNothing one
    → is_settled (journal ++ one ∷ []) place ≡ is_settled journal place
is_settled-push_other journal one place none =
    is_settled-push journal one place ∙ ap (λ b. is_settled journal place || b) (none place)
    ∙ or_false (is_settled journal place)

-- an entry with its place, and that place
abbrev Placed : Type 0
Placed = ℕ × Entry

abbrev place_of : Placed → ℕ
place_of at = at.0

-- the places of a journal with one entry more, by the entries before it and by that one
unsettled-parts : (journal : List Entry) (one : Entry)
    → unsettled (journal ++ one ∷ [])
    ≡ map place_of (filter (is_unsettled (journal ++ one ∷ [])) (enumerate_from 0 journal))
    ++ map place_of (filter (is_unsettled (journal ++ one ∷ [])) ((length journal, one) ∷ []))
unsettled-parts journal one =
    let test = is_unsettled (journal ++ one ∷ []) in
    let end : List Placed = (length journal, one) ∷ [] in
    ap (λ (ats : List Placed). map place_of (filter test ats)) (enumerate_from-append 0 journal (one ∷ [])
    ∙ ap (λ n. enumerate_from 0 journal ++ enumerate_from n (one ∷ [])) (zero-add (length journal)))
    ∙ ap (map place_of) (filter-append test (enumerate_from 0 journal) end)
    ∙ map-append place_of (filter test (enumerate_from 0 journal)) (filter test end)

-- the places of the entries before one that settles nothing
unsettled-kept : (journal : List Entry) (one : Entry) → SettlesNothing one
    → map place_of (filter (is_unsettled (journal ++ one ∷ [])) (enumerate_from 0 journal)) ≡ unsettled journal
unsettled-kept journal one none =
    let placed : List Placed = enumerate_from 0 journal in
    ap (map place_of) (filter_agree (is_unsettled (journal ++ one ∷ [])) (is_unsettled journal) same placed)
  where
    same : (at : Placed) → is_unsettled (journal ++ one ∷ []) at ≡ is_unsettled journal at
    same at = ap (λ b. is_some (as_write at.1) && not b) (is_settled-push_other journal one at.0 none)

-- a write is not settled yet, where no entry before it settles its place
pub unsettled-push_write : (journal : List Entry) (cell : _) → is_settled journal (length journal) ≡ false
    → unsettled (journal ++ entry.Write cell ∷ []) ≡ unsettled journal ++ length journal ∷ []
unsettled-push_write journal cell fresh =
    let one : Entry = entry.Write cell in
    let still : is_settled (journal ++ one ∷ []) (length journal) ≡ false =
    is_settled-push_other journal one (length journal) (λ _. refl) ∙ fresh in
    let end : List Placed = (length journal, one) ∷ [] in
    unsettled-parts journal one
    ∙ ap (λ ps. ps ++ map place_of (filter (is_unsettled (journal ++ one ∷ [])) end))
    (unsettled-kept journal one (λ _. refl))
    ∙ ap (λ b. unsettled journal ++ map place_of (cond (not b) end [])) still

-- an entry that is no write and settles nothing is of no matter
pub unsettled-push_other : (journal : List Entry) (one : Entry) → as_write one ≡ None → SettlesNothing one
    → unsettled (journal ++ one ∷ []) ≡ unsettled journal
unsettled-push_other journal one no_write none =
    let place = length journal in
    let end : List Placed = (place, one) ∷ [] in
    unsettled-parts journal one
    ∙ ap (λ ps. ps ++ map place_of (filter (is_unsettled (journal ++ one ∷ [])) end)) (unsettled-kept journal one none)
    ∙ ap (λ (w : Option Write). unsettled journal
    ++ map place_of (cond (is_some w && not (is_settled (journal ++ one ∷ []) place)) end [])) no_write
    ∙ append-nil (unsettled journal)

-- what an entry settles is no longer among them
pub unsettled-push_settled : (journal : List Entry) (place : ℕ)
    → unsettled (journal ++ entry.Settled place ∷ []) ≡ filter (λ p. not (eqb p place)) (unsettled journal)
unsettled-push_settled journal place =
    let one : Entry = entry.Settled place in
    let left : ℕ → Bool = λ p. not (eqb p place) in
    let placed : List Placed = enumerate_from 0 journal in
    unsettled-parts journal one
    ∙ append-nil (map place_of (filter (is_unsettled (journal ++ one ∷ [])) placed))
    ∙ ap (map place_of)
    (filter_agree (is_unsettled (journal ++ one ∷ [])) (λ at. is_unsettled journal at && left at.0) same placed)
    ∙ map-filter_and place_of (is_unsettled journal) left placed
  where
    turned : (p q : ℕ) → eqb p q ≡ eqb q p
    turned p q = grind (arith, eq-eqb, eqb-true)

    parts : (a b c : Bool) → a && not (b || c) ≡ (a && not b) && not c
    parts true true c = refl
    parts true false c = refl
    parts false b c = refl

    same : (at : Placed)
        → is_unsettled (journal ++ entry.Settled place ∷ []) at ≡ is_unsettled journal at && not (eqb at.0 place)
    same at =
        ap (λ b. is_some (as_write at.1) && not b) (is_settled-push journal (entry.Settled place) at.0)
        ∙ parts (is_some (as_write at.1)) (is_settled journal at.0) (eqb place at.0)
        ∙ ap (λ b. is_unsettled journal at && not b) (turned place at.0)

-- an entry with its place is there
Contains-enumerate_from : (journal : List Entry) (at : Placed) → Contains (enumerate_from 0 journal) at
    → slice_get journal at.0 ≡ Some at.1
Contains-enumerate_from journal at (k, below, is) =
    let within : k < length journal = omega (arith, length-enumerate_from 0 journal) in
    let pair : (0 + k, get_or journal k at.1) ≡ at = sym (get_or-enumerate_from 0 journal k at within) ∙ is in
    let place : k ≡ at.0 = sym (zero-add k) ∙ ap place_of pair in
    let item : get_or journal k at.1 ≡ at.1 = ap (λ (a : Placed). a.1) pair in
    ap (slice_get journal) (sym place) ∙ slice_get-get_or journal k at.1 within ∙ ap (λ (e : Entry). Some e) item

Contains-placed : (journal : List Entry) (place : ℕ) (one : Entry) → slice_get journal place ≡ Some one
    → Contains (enumerate_from 0 journal) (place, one)
Contains-placed journal place one is =
    let within : place < length journal = slice_get_within journal place one is in
    let at : Placed = (place, one) in (
      place,
      omega (arith, length-enumerate_from 0 journal),
      get_or-enumerate_from 0 journal place at within
          ∙ ap (λ n. (n, get_or journal place one)) (zero-add place)
          ∙ ap (λ (e : Entry). (place, e)) (get_or_from_slice_get journal place one one is),
    )

-- a place that is not settled is that of a write, and no entry settles it
pub unsettled_is : (journal : List Entry) (place : ℕ) → Contains (unsettled journal) place
    → IsSome (write_at journal place) × (is_settled journal place ≡ false)
unsettled_is journal place (k, below, is) =
    let kept : List Placed = filter (is_unsettled journal) (enumerate_from 0 journal) in
    let within : k < length kept = omega (arith, length-map kept place_of) in
    let none : Placed = (place, entry.Committed) in
    let at : Placed = get_or kept k none in
    let there = Contains-from_filter (is_unsettled journal) (enumerate_from 0 journal) at
    (Contains-get_or kept k none within) in
    let placed : at.0 ≡ place = sym (get_or-map place_of kept k none place within) ∙ is in
    let found = Contains-enumerate_from journal at there.0 in
    let parts = both (is_some (as_write at.1)) (is_settled journal at.0) there.1 in
    let write : is_some (write_at journal at.0) ≡ true =
    ap (λ (one : Option Entry). is_some (option_and_then as_write one)) found ∙ parts.0 in
    (subst (λ p. IsSome (write_at journal p)) placed write, ap (is_settled journal) (sym placed) ∙ parts.1)
  where
    both : (a b : Bool) → a && not b ≡ true → (a ≡ true) × (b ≡ false)
    both true false h = (refl, refl)
    both true true h = absurd (cc)
    both false b h = absurd (cc)

-- and each such place is among them
pub unsettled_from : (journal : List Entry) (place : ℕ) → IsSome (write_at journal place)
    → is_settled journal place ≡ false → Contains (unsettled journal) place
unsettled_from journal place some still = by (slice_get journal place) refl some where
  by : (one : Option Entry) → slice_get journal place ≡ one → IsSome (option_and_then as_write one)
      → Contains (unsettled journal) place
  by None is none = let both : false ≡ true = none in absurd (cc)
  by (Some one) is write =
      let write_is : is_some (as_write one) ≡ true = write in
      let test : is_unsettled journal (place, one) ≡ true =
      ap (λ b. is_some (as_write one) && not b) still ∙ and_true (is_some (as_write one)) ∙ write_is in
      let placed : List Placed = enumerate_from 0 journal in
      let there = Contains-placed journal place one is in
      Contains-map place_of (filter (is_unsettled journal) placed) (place, one)
      (Contains-filter (is_unsettled journal) placed (place, one) there test)
    where
      and_true : (b : Bool) → b && true ≡ b
      and_true true = refl
      and_true false = refl

-- they ascend, each once
pub unsettled-ascends : (journal : List Entry) → IsStrictlyIncreasing (unsettled journal)
unsettled-ascends journal =
    IsStrictlyIncreasing-map-filter place_of (is_unsettled journal) (enumerate_from 0 journal)
    (IsStrictlyIncreasing-counted place_of 0 (enumerate_from 0 journal) placed)
  where
    placed : (i : ℕ) (at : Placed) → slice_get (enumerate_from 0 journal) i ≡ Some at → place_of at ≡ 0 + i
    placed i at is =
        let within = slice_get_within (enumerate_from 0 journal) i at is in
        let inside : i < length journal = omega (arith, length-enumerate_from 0 journal) in
        let found = get_or_from_slice_get (enumerate_from 0 journal) i at at is in
        ap place_of (sym found ∙ get_or-enumerate_from 0 journal i at inside)

-- and lie within the journal
pub unsettled_within : (journal : List Entry) (place : ℕ) → Contains (unsettled journal) place → place < length journal
unsettled_within journal place there = write_at_within journal place (unsettled_is journal place there).0

pub unsettled-below : (journal : List Entry) → All (λ place. place < length journal) (unsettled journal)
unsettled-below journal =
    All-weaker (Contains (unsettled journal)) (λ place. place < length journal) (unsettled_within journal)
    (unsettled journal) (All-contains_itself (unsettled journal))

-- one that is settled makes them one less
pub length-unsettled-push_settled : (journal : List Entry) (place : ℕ)
    → IsSome (write_at journal place) → is_settled journal place ≡ false
    → length (unsettled (journal ++ entry.Settled place ∷ [])) + 1 ≡ length (unsettled journal)
length-unsettled-push_settled journal place written still =
    ap (λ ps. length ps + 1) (unsettled-push_settled journal place)
    ∙ length-filter_out place (unsettled journal) (unsettled-ascends journal)
    (unsettled_from journal place written still)
