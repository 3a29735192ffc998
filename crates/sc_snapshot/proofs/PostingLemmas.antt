-- Rows with each of their terms as keys: of one row more, and which rows have a term.
use Rattle.std.proofs.Common.{◌≡◌, ℕ, zero, suc, ◌+◌, ◌<◌, ◌==◌, Bool, true, false, cond, not, ◌≤◌, Option, All, get_or, ◌&&◌, ◌||◌, List, [], ◌∷◌, ◌++◌, length, slice_get, refl, sym, ap, ◌∙◌, arith, append-nil, append_assoc}
use Rattle.std.proofs.lemmas.Bool.Decides.{nat_tests}
use Rattle.std.proofs.lemmas.List.Folds.{list_any-append}
use Rattle.std.proofs.lemmas.List.Elements.{All-nil, All-cons}
use Rattle.std.specs.List.{list_any}
use Rattle.std.specs.List.Sorted.{IsNonDecreasingBy}
use Rattle.std.specs.Ordering.{is_eq}
use Rattle.sc_record.specs.declared.term.Term.{Term}
use Rattle.sc_record.specs.Writes.{Write}
use Rattle.sc_record.proofs.TermLemmas.{same_term}
use Rattle.sc_rows.specs.Joining.{has_row}
use Rattle.sc_segment.proofs.HasRowLemmas.{has_row-rows_with}
use Rattle.sc_segment.specs.Index.{rows_with}
use Rattle.sc_snapshot.specs.Change.{is_kept, keyed_new}
use Rattle.sc_snapshot.specs.Keys.{key_cmp}
use Rattle.sc_snapshot.specs.Postings.{key_order, keyed, keyed_rows, live_terms, has_term}
use Rattle.sc_snapshot.specs.declared.term_key.TermKey.{TermKey}
use Rattle.sc_snapshot.proofs.KeyLemmas.{same_key-ties}

-- the keys of one row more come last
pub keyed_rows-push : (from : ℕ) (rows : List Write) (row : Write)
    → keyed_rows from (rows ++ row ∷ []) ≡ keyed_rows from rows ++ keyed (from + length rows) (live_terms row)
keyed_rows-push from [] row =
    let place : from ≡ from + 0 = omega arith in
    append-nil (keyed from (live_terms row)) ∙ ap (λ n. keyed n (live_terms row)) place
keyed_rows-push from (first ∷ rows) row =
    let place : from + 1 + length rows ≡ from + length (first ∷ rows) = omega arith in
    ap (λ (ps : List (ℕ × TermKey)). keyed from (live_terms first) ++ ps) (keyed_rows-push (from + 1) rows row)
    ∙ sym (append_assoc (keyed from (live_terms first)) (keyed_rows (from + 1) rows) (keyed (from + 1 + length rows) (live_terms row)))
    ∙ ap (λ n. (keyed from (live_terms first) ++ keyed_rows (from + 1) rows) ++ keyed n (live_terms row)) place

and-false : (b : Bool) → (b && false) ≡ false
and-false true = refl
and-false false = refl

module _ (term : Term) where
  -- the pair is of this row, and of the term
  abbrev is_wanted : ℕ → ℕ × TermKey → Bool
  is_wanted number p = (p.0 == number) && is_eq (key_cmp term p.1.term)

  keyed_any : (number at : ℕ) (terms : List Term)
      → list_any (is_wanted number) (keyed at terms) ≡ ((at == number) && list_any (same_term term) terms)
  keyed_any number at [] = elim (at == number) as (λ b. false ≡ (b && false)) [ true ↦ refl | false ↦ refl ]
  keyed_any number at (first ∷ terms) =
      rw (keyed_any number at terms, ← same_key-ties term first)
      (elim (at == number) as (λ b. ((b && same_term term first) || (b && list_any (same_term term) terms)) ≡ (b && (same_term term first || list_any (same_term term) terms))) [
        | true ↦ refl
        | false ↦ refl
      ])

  apart : (x y : ℕ) → y < x → (x == y) ≡ false
  apart x y h = grind (arith, nat_tests)

  apart-below : (x y : ℕ) → x < y → (x == y) ≡ false
  apart-below x y h = grind (arith, nat_tests)

  itself : (x : ℕ) → (x == x) ≡ true
  itself x = grind (arith, nat_tests)

  none_before : (moved : List (Option ℕ)) (number from : ℕ) (rows : List Write) → number < from → list_any (is_wanted number) (keyed_new moved from rows) ≡ false
  none_before moved number from [] before = refl
  none_before moved number from (row ∷ rows) before =
      list_any-append (is_wanted number) (cond (is_kept moved from) [] (keyed from (live_terms row))) (keyed_new moved (from + 1) rows)
      ∙ rw (none_before moved number (from + 1) rows (omega (arith, before)))
      (elim (is_kept moved from) as (λ b. (list_any (is_wanted number) (cond b [] (keyed from (live_terms row))) || false) ≡ false) [
        | true ↦ refl
        | false ↦ rw (keyed_any number from (live_terms row), apart from number before) refl
      ])

  any_at : (moved : List (Option ℕ)) (from k : ℕ) (rows : List Write)
      → list_any (is_wanted (from + k)) (keyed_new moved from rows) ≡ (not (is_kept moved (from + k)) && has_term term (slice_get rows k))
  any_at moved from zero [] = sym (and-false (not (is_kept moved (from + zero))))
  any_at moved from (suc k) [] = sym (and-false (not (is_kept moved (from + suc k))))
  any_at moved from zero (row ∷ rows) =
      let here : from + zero ≡ from = omega arith in
      let later : from + zero < from + 1 = omega arith in
      list_any-append (is_wanted (from + zero)) (cond (is_kept moved from) [] (keyed from (live_terms row))) (keyed_new moved (from + 1) rows)
      ∙ rw (none_before moved (from + zero) (from + 1) rows later, here)
      (elim (is_kept moved from) as (λ b. (list_any (is_wanted from) (cond b [] (keyed from (live_terms row))) || false) ≡ (not b && list_any (same_term term) (live_terms row))) [
        | true ↦ refl
        | false ↦ rw (keyed_any from from (live_terms row), itself from)
            (elim (list_any (same_term term) (live_terms row)) as (λ b. (b || false) ≡ b) [ true ↦ refl | false ↦ refl ])
      ])
  any_at moved from (suc k) (row ∷ rows) =
      let before : from < from + suc k = omega arith in
      let place : from + suc k ≡ from + 1 + k = omega arith in
      list_any-append (is_wanted (from + suc k)) (cond (is_kept moved from) [] (keyed from (live_terms row))) (keyed_new moved (from + 1) rows)
      ∙ elim (is_kept moved from) as (λ b. (list_any (is_wanted (from + suc k)) (cond b [] (keyed from (live_terms row))) || list_any (is_wanted (from + suc k)) (keyed_new moved (from + 1) rows))
      ≡ list_any (is_wanted (from + suc k)) (keyed_new moved (from + 1) rows)) [
        | true ↦ refl
        | false ↦ rw (keyed_any (from + suc k) from (live_terms row), apart-below from (from + suc k) before) refl
      ]
      ∙ ap (λ n. list_any (is_wanted n) (keyed_new moved (from + 1) rows)) place ∙ any_at moved (from + 1) k rows
      ∙ ap (λ n. not (is_kept moved n) && has_term term (slice_get rows k)) (sym place)

-- the rows of a key that are none of the kept are those that have its term
pub has_row-new : (moved : List (Option ℕ)) (rows : List Write) (key : TermKey) (number : ℕ)
    → has_row (rows_with key_order (keyed_new moved 0 rows) key) number ≡ (not (is_kept moved number) && has_term key.term (slice_get rows number))
has_row-new moved rows key number =
    let place : number ≡ 0 + number = omega arith in
    has_row-rows_with key_order (keyed_new moved 0 rows) key number
    ∙ ap (λ n. list_any (is_wanted key.term n) (keyed_new moved 0 rows)) place ∙ any_at key.term moved 0 number rows
    ∙ ap (λ n. not (is_kept moved n) && has_term key.term (slice_get rows number)) (sym place)

-- where none is kept, all are new
pub all_new : (from : ℕ) (rows : List Write) → keyed_new [] from rows ≡ keyed_rows from rows
all_new from [] = refl
all_new from (row ∷ rows) = ap (λ (ps : List (ℕ × TermKey)). keyed from (live_terms row) ++ ps) (all_new (from + 1) rows)

-- the rows of a key are those that have its term
pub has_row-term : (rows : List Write) (key : TermKey) (number : ℕ)
    → has_row (rows_with key_order (keyed_rows 0 rows) key) number ≡ has_term key.term (slice_get rows number)
has_row-term rows key number =
    ap (λ (ps : List (ℕ × TermKey)). has_row (rows_with key_order ps key) number) (sym (all_new 0 rows)) ∙ has_row-new [] rows key number

-- ---- the keys come in the order of their rows
abbrev row_of : ℕ × TermKey → ℕ
row_of p = p.0

cons-up : (p : ℕ × TermKey) (ps : List (ℕ × TermKey)) → All (λ q. p.0 ≤ q.0) ps → IsNonDecreasingBy row_of ps → IsNonDecreasingBy row_of (p ∷ ps)
cons-up p ps least up = λ i j d le within. at i j d le within
  where
    at : (i j : ℕ) (d : ℕ × TermKey) → i ≤ j → j < length (p ∷ ps) → (get_or (p ∷ ps) i d).0 ≤ (get_or (p ∷ ps) j d).0
    at zero zero d le within = omega arith
    at zero (suc j) d le within = least j d (omega arith)
    at (suc i) zero d le within = absurd (omega (arith, le))
    at (suc i) (suc j) d le within = up i j d (omega (arith, le)) (omega (arith, within))

keyed-up : (number : ℕ) (terms : List Term) (rest : List (ℕ × TermKey)) → All (λ q. number ≤ q.0) rest → IsNonDecreasingBy row_of rest
    → All (λ q. number ≤ q.0) (keyed number terms ++ rest) × IsNonDecreasingBy row_of (keyed number terms ++ rest)
keyed-up number [] rest least up = (least, up)
keyed-up number (term ∷ terms) rest least up =
    let r = keyed-up number terms rest least up in (
      All-cons (λ q. number ≤ q.0) (number, record { term = term }) (keyed number terms ++ rest) (omega arith) r.0,
      cons-up (number, record { term = term }) (keyed number terms ++ rest) r.0 r.1,
    )

rows-up : (from : ℕ) (rows : List Write) → All (λ q. from ≤ q.0) (keyed_rows from rows) × IsNonDecreasingBy row_of (keyed_rows from rows)
rows-up from [] = (All-nil (λ q. from ≤ q.0), λ i j d le within. absurd (omega arith))
rows-up from (row ∷ rows) =
    let r = rows-up (from + 1) rows in
    keyed-up from (live_terms row) (keyed_rows (from + 1) rows) (λ k d within. let above = r.0 k d within in omega (arith, above)) r.1

pub rows_ascend : (rows : List Write) → IsNonDecreasingBy row_of (keyed_rows 0 rows)
rows_ascend rows = (rows-up 0 rows).1
