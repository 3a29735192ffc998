-- The places of the rest of a journal that are not settled, one place on.
use Rattle.std.proofs.Common.{◌≡◌, ℕ, ◌+◌, ◌<◌, ◌≤◌, Bool, true, false, cond, List, [], ◌∷◌, ◌++◌, length, get_or, map, drop, refl, sym, ap, ◌∙◌, arith}
use Rattle.std.specs.List.{filter, enumerate_from}
use Rattle.std.proofs.lemmas.List.{at_drop_more, length-map}
use Rattle.std.proofs.lemmas.List.FromFn.{length-enumerate_from}
use Rattle.std.proofs.lemmas.List.Sums.{length-filter, count_by-le-length}
use Rattle.sc_record.specs.declared.entry.Entry.{Entry}
use Rattle.sc_record.specs.declared.entry.Entry.TheVariants as entry
use Rattle.sc_journal.specs.Journal.{is_unsettled, unsettled}
use Rattle.sc_journal.proofs.ListLemmas.{append-cons}

-- the places of the rest, counted from this place on, of the writes that no entry of the journal settles
abbrev pub unsettled_rest : List Entry → ℕ → List Entry → List ℕ
unsettled_rest journal from rest = map (λ (at : ℕ × Entry). at.0) (filter (is_unsettled journal) (enumerate_from from rest))

rest_cons : (journal : List Entry) (from : ℕ) (one : Entry) (rest : List Entry) (t : Bool) → is_unsettled journal (from, one) ≡ t
    → unsettled_rest journal from (one ∷ rest) ≡ cond t (from ∷ unsettled_rest journal (from + 1) rest) (unsettled_rest journal (from + 1) rest)
rest_cons journal from one rest true is = rw is refl
rest_cons journal from one rest false is = rw is refl

-- the rest from a place on, by the entry there
rest_at : (journal : List Entry) (i : ℕ) (one : Entry) (t : Bool) → i < length journal → one ≡ get_or journal i one
    → is_unsettled journal (i, one) ≡ t
    → unsettled_rest journal i (drop i journal)
    ≡ cond t (i ∷ unsettled_rest journal (i + 1) (drop (i + 1) journal)) (unsettled_rest journal (i + 1) (drop (i + 1) journal))
rest_at journal i one t within is test =
    at_drop_more (unsettled_rest journal i) journal i one within
    ∙ ap (λ (e : Entry). unsettled_rest journal i (e ∷ drop (i + 1) journal)) (sym is)
    ∙ rest_cons journal i one (drop (i + 1) journal) t test

-- where the write there is not settled its place is the next, and otherwise there is none
pub put_place : (journal : List Entry) (places whole : List ℕ) (i : ℕ) (one : Entry) → i < length journal → one ≡ get_or journal i one
    → is_unsettled journal (i, one) ≡ true → places ++ unsettled_rest journal i (drop i journal) ≡ whole
    → (places ++ i ∷ []) ++ unsettled_rest journal (i + 1) (drop (i + 1) journal) ≡ whole
put_place journal places whole i one within is test so_far =
    append-cons places i (unsettled_rest journal (i + 1) (drop (i + 1) journal))
    ∙ ap (λ (more : List ℕ). places ++ more) (sym (rest_at journal i one true within is test)) ∙ so_far

pub put_none : (journal : List Entry) (places whole : List ℕ) (i : ℕ) (one : Entry) → i < length journal → one ≡ get_or journal i one
    → is_unsettled journal (i, one) ≡ false → places ++ unsettled_rest journal i (drop i journal) ≡ whole
    → places ++ unsettled_rest journal (i + 1) (drop (i + 1) journal) ≡ whole
put_none journal places whole i one within is test so_far =
    ap (λ (more : List ℕ). places ++ more) (sym (rest_at journal i one false within is test)) ∙ so_far

-- an entry that is no write is not one of them
pub no_write : (journal : List Entry) (i : ℕ) (one : Entry) → ((cell : _) → one ≡ entry.Write cell → ⊥)
    → is_unsettled journal (i, one) ≡ false
no_write journal i (entry.Write cell) none = absurd (none cell refl)
no_write journal i (entry.Settled place) none = refl
no_write journal i entry.Committed none = refl
no_write journal i (entry.Begun parent subs) none = refl
no_write journal i (entry.Switched parent) none = refl
no_write journal i (entry.Failed parent) none = refl
no_write journal i (entry.Dropped slice) none = refl
no_write journal i (entry.Down core) none = refl
no_write journal i (entry.Up core) none = refl
no_write journal i (entry.Led core) none = refl

-- they are no more than the entries
pub unsettled_few : (journal : List Entry) → length (unsettled journal) ≤ length journal
unsettled_few journal =
    let all : List (ℕ × Entry) = enumerate_from 0 journal in
    omega (
      arith,
      length-map (filter (is_unsettled journal) all) (λ (at : ℕ × Entry). at.0),
      length-filter (is_unsettled journal) all,
      count_by-le-length (is_unsettled journal) all,
      length-enumerate_from 0 journal,
    )
