-- An index carried over from a snapshot to the next: it has for each key the new rows that have its term.
use Rattle.std.proofs.Common.{◌≡◌, ℕ, zero, suc, ◌+◌, ◌<◌, ◌≤◌, ◌==◌, Bool, true, false, true≢false, not, ◌&&◌, ◌||◌, List, [], ◌∷◌, map, take, length, slice_get, Option, Some, None, refl, sym, ap, subst, ◌∙◌, arith, ⊎_elim}
use Rattle.std.proofs.Math.Seq.{take-length}
use Rattle.std.proofs.Math.ListN.{get_or-eq_default}
use Rattle.std.proofs.lemmas.Bool.{cases_lt}
use Rattle.std.proofs.lemmas.Bool.Decides.{nat_tests}
use Rattle.std.proofs.lemmas.List.{nil_from_length}
use Rattle.std.proofs.lemmas.Option.{slice_get-get_or, slice_get-map, get_or_from_slice_get}
use Rattle.std.specs.Cmp.{both_ways, IsTotalOrder}
use Rattle.std.specs.List.{filter_map, cons_option}
use Rattle.std.specs.Option.{option_map}
use Rattle.sc_record.specs.Writes.{Write}
use Rattle.std.proofs.lemmas.Cmp.{on_total}
use Rattle.sc_rows.proofs.JoinLemmas.{AscendFrom, increasing_from_ascend}
use Rattle.sc_rows.specs.Moving.{new_number, new_numbers, KeepsOrder}
use Rattle.sc_rows.specs.Joining.{has_row}
use Rattle.sc_segment.proofs.IndexLemmas.{rows_at-index, IsIndexOf-from_rows, rows_with-ascend}
use Rattle.sc_segment.specs.Carrying.{IsCarried}
use Rattle.sc_segment.specs.Index.{IsIndexOf, rows_at}
use Rattle.sc_snapshot.specs.Change.{moves_to, is_kept, keyed_new, IsChange}
use Rattle.sc_snapshot.specs.Postings.{key_order, keyed_rows, has_term, without_ids}
use Rattle.sc_snapshot.specs.declared.change.Change.{Change}
use Rattle.sc_snapshot.specs.declared.term_key.TermKey.{TermKey}
use Rattle.sc_snapshot.proofs.ChangeLemmas.{kept_at}
use Rattle.sc_snapshot.proofs.KeyLemmas.{key_cmp-total}
use Rattle.sc_snapshot.proofs.PostingLemmas.{all_new, has_row-term, has_row-new, rows_ascend}

one_number : (x y : ℕ) → (x == y) ≡ true → x ≡ y
one_number x y h = grind (arith, nat_tests)

itself : (x y : ℕ) → x ≡ y → (x == y) ≡ true
itself x y h = grind (arith, nat_tests)

-- ---- the new numbers
number_at : (moved : List (Option ℕ)) (at number : ℕ) → new_number moved at ≡ Some number → slice_get moved at ≡ Some (Some number)
number_at moved at number is = ⊎_elim
    (λ within. slice_get-get_or moved at None within ∙ ap (λ (o : Option ℕ). Some o) is)
    (λ past. let none : None ≡ Some number = sym (get_or-eq_default moved None past) ∙ is in cc)
    (cases_lt at (length moved))

-- the numbers of what is kept ascend from here on
kept-ascend : (low : ℕ) (moved : List (Option ℕ)) → ((at number : ℕ) → slice_get moved at ≡ Some (Some number) → low ≤ number)
    → ((at later number other : ℕ) → at < later → slice_get moved at ≡ Some (Some number) → slice_get moved later ≡ Some (Some other) → number < other)
    → AscendFrom low (filter_map (λ (number : Option ℕ). number) moved)
kept-ascend low [] from up = tt
kept-ascend low (None ∷ ms) from up =
    kept-ascend low ms (λ at number is. from (suc at) number is)
    (λ at later number other before is that. up (suc at) (suc later) number other (omega (arith, before)) is that)
kept-ascend low (Some m ∷ ms) from up = (
  from 0 m refl,
  kept-ascend (m + 1) ms (λ at number is. let above = up 0 (suc at) m number (omega arith) refl is in omega (arith, above))
      (λ at later number other before is that. up (suc at) (suc later) number other (omega (arith, before)) is that),
)

pub keeps_order : (old new : List Write) (low high : ℕ) (change : Change) → IsChange old new low high change → KeepsOrder change.moved
keeps_order old new low high change is =
    increasing_from_ascend 0 (filter_map (λ (number : Option ℕ). number) change.moved)
    (kept-ascend 0 change.moved (λ at number h. omega arith) is.ascending)

-- ---- which new numbers rows have
-- the row that is looked for, with its new number
abbrev HasNew : List (Option ℕ) → List ℕ → ℕ → Type 0
HasNew moved rows number = (at : ℕ) × (has_row rows at ≡ true) × (new_number moved at ≡ Some number)

-- a new number is that of an old row
from_new : (moved : List (Option ℕ)) (rows : List ℕ) (number : ℕ) → has_row (new_numbers moved rows) number ≡ true → HasNew moved rows number
from_new moved [] number has = absurd (true≢false (sym has))
from_new moved (row ∷ rows) number has = by_number (λ h. later (from_new moved rows number h)) (new_number moved row) refl has
  where
    later : HasNew moved rows number → HasNew moved (row ∷ rows) number
    later there = (there.0, elim (row == there.0) as (λ b. (b || has_row rows there.0) ≡ true) [ true ↦ refl | false ↦ there.1 ], there.2)

    by_number : (has_row (new_numbers moved rows) number ≡ true → HasNew moved (row ∷ rows) number)
        → (o : Option ℕ) → new_number moved row ≡ o → has_row (cons_option o (new_numbers moved rows)) number ≡ true → HasNew moved (row ∷ rows) number
    by_number rest None is h = rest h
    by_number rest (Some n) is h =
        elim (n == number) as (λ b. (n == number) ≡ b → (b || has_row (new_numbers moved rows) number) ≡ true → HasNew moved (row ∷ rows) number) [
          | true ↦ λ here _. (row, ap (λ b. b || has_row rows row) (itself row row refl), is ∙ ap (λ m. Some m) (one_number n number here))
          | false ↦ λ _ there. rest there
        ] refl h

-- and an old row's new number is among them
to_new : (moved : List (Option ℕ)) (rows : List ℕ) (number at : ℕ) → has_row rows at ≡ true → new_number moved at ≡ Some number
    → has_row (new_numbers moved rows) number ≡ true
to_new moved [] number at has is = absurd (true≢false (sym has))
to_new moved (row ∷ rows) number at has is = by_row (λ h. to_new moved rows number at h is) (row == at) refl has
  where
    by_number : (o : Option ℕ) → has_row (new_numbers moved rows) number ≡ true → has_row (cons_option o (new_numbers moved rows)) number ≡ true
    by_number None h = h
    by_number (Some n) h = elim (n == number) as (λ b. (b || has_row (new_numbers moved rows) number) ≡ true) [ true ↦ refl | false ↦ h ]

    by_row : (has_row rows at ≡ true → has_row (new_numbers moved rows) number ≡ true)
        → (b : Bool) → (row == at) ≡ b → (b || has_row rows at) ≡ true → has_row (new_numbers moved (row ∷ rows)) number ≡ true
    by_row rest true here _ =
        ap (λ (o : Option ℕ). has_row (cons_option o (new_numbers moved rows)) number) (ap (new_number moved) (one_number row at here) ∙ is)
        ∙ ap (λ b. b || has_row (new_numbers moved rows) number) (itself number number refl)
    by_row rest false _ there = by_number (new_number moved row) (rest there)

-- ---- what is carried
-- what an old row has is kept
kept_from : (moved : List (Option ℕ)) (at number : ℕ) → slice_get moved at ≡ Some (Some number) → is_kept moved number ≡ true
kept_from [] at number is = cc
kept_from (o ∷ os) zero number is =
    let here : o ≡ Some number = cc in
    ap (λ b. b || is_kept os number) (ap (moves_to number) here ∙ itself number number refl)
kept_from (o ∷ os) (suc at) number is =
    elim (moves_to number o) as (λ b. (b || is_kept os number) ≡ true) [ true ↦ refl | false ↦ kept_from os at number is ]

by_kept : (kept has : Bool) → ((kept && has) || (not kept && has)) ≡ has
by_kept true true = refl
by_kept true false = refl
by_kept false has = refl

and_true : (one other : Bool) → (one && other) ≡ true → (one ≡ true) × (other ≡ true)
and_true true other h = (refl, h)
and_true false other h = absurd (true≢false (sym h))

-- keys compare by their terms
pub keys_total : IsTotalOrder key_order
keys_total = on_total (λ (key : TermKey). key.term) key_cmp-total

module _ (old new : List Write) (low high : ℕ) (change : Change) (is : IsChange old new low high change) where
  abbrev moved : List (Option ℕ)
  moved = change.moved

  -- the rows as they are filed
  abbrev filed_old : List Write
  filed_old = map without_ids old

  abbrev filed_new : List Write
  filed_new = map without_ids new

  -- what is kept is filed alike
  same_filed : (at number : ℕ) → slice_get old at ≡ slice_get new number → slice_get filed_old at ≡ slice_get filed_new number
  same_filed at number same =
      slice_get-map without_ids old at ∙ ap (option_map without_ids) same ∙ sym (slice_get-map without_ids new number)

  -- the kept rows of a key
  kept_rows : (key : TermKey) (rows : List ℕ) → ((at : ℕ) → has_row rows at ≡ has_term key.term (slice_get filed_old at)) → (number : ℕ)
      → has_row (new_numbers moved rows) number ≡ (is_kept moved number && has_term key.term (slice_get filed_new number))
  kept_rows key rows members number =
      both_ways (has_row (new_numbers moved rows) number) (is_kept moved number && has_term key.term (slice_get filed_new number)) there back
    where
      there : has_row (new_numbers moved rows) number ≡ true → (is_kept moved number && has_term key.term (slice_get filed_new number)) ≡ true
      there h =
          let found = from_new moved rows number h in
          let spot = number_at moved found.0 number found.2 in
          let same = same_filed found.0 number (is.kept found.0 number spot).1 in
          let has = ap (has_term key.term) (sym same) ∙ sym (members found.0) ∙ found.1 in
          ap (λ b. b && has_term key.term (slice_get filed_new number)) (kept_from moved found.0 number spot) ∙ has

      back : (is_kept moved number && has_term key.term (slice_get filed_new number)) ≡ true → has_row (new_numbers moved rows) number ≡ true
      back h =
          let parts = and_true (is_kept moved number) (has_term key.term (slice_get filed_new number)) h in
          let spot = kept_at moved number parts.0 in
          let same = same_filed spot.0 number (is.kept spot.0 number spot.1).1 in
          to_new moved rows number spot.0
          (members spot.0 ∙ ap (has_term key.term) same ∙ parts.1)
          (get_or_from_slice_get moved spot.0 (Some number) None spot.1)

  -- the other terms of all new rows that are none of the kept are filed
  all_filed : length new ≡ high → IsIndexOf key_order (keyed_new moved 0 filed_new) change.added.index
  all_filed all = subst (λ (rows : List Write). IsIndexOf key_order (keyed_new moved 0 (map without_ids rows)) change.added.index)
      (ap (λ n. take n new) (sym all) ∙ take-length new) is.filed

  -- where there are no old rows, what is filed is the index of the new ones
  pub first_terms : length moved ≡ 0 → length new ≡ high → IsIndexOf key_order (keyed_rows 0 (map without_ids new)) change.added.index
  first_terms none all = subst (λ (ps : List (ℕ × TermKey)). IsIndexOf key_order ps change.added.index)
      (ap (λ (os : List (Option ℕ)). keyed_new os 0 filed_new) (nil_from_length moved none) ∙ all_new 0 filed_new) (all_filed all)

  -- the index that is carried is that of the new rows
  pub carried_terms : (index carried : List (TermKey × List ℕ)) → length new ≡ high → IsIndexOf key_order (keyed_rows 0 (map without_ids old)) index
      → IsCarried key_order moved index change.added.index carried → IsIndexOf key_order (keyed_rows 0 (map without_ids new)) carried
  carried_terms index carried all terms moves =
      IsIndexOf-from_rows keys_total (keyed_rows 0 filed_new) carried moves.in_order
      (λ key. rows_with-ascend key_order (keyed_rows 0 filed_new) key (rows_ascend filed_new))
      (λ key number. moves.members key number
      ∙ ap (λ b. b || has_row (rows_at key_order change.added.index key) number)
      (kept_rows key (rows_at key_order index key)
      (λ at. ap (λ (rs : List ℕ). has_row rs at) (rows_at-index keys_total (keyed_rows 0 filed_old) index terms key) ∙ has_row-term filed_old key at) number)
      ∙ ap (λ b. (is_kept moved number && has_term key.term (slice_get filed_new number)) || b)
      (ap (λ (rs : List ℕ). has_row rs number) (rows_at-index keys_total (keyed_new moved 0 filed_new) change.added.index (all_filed all) key) ∙ has_row-new moved filed_new key number)
      ∙ by_kept (is_kept moved number) (has_term key.term (slice_get filed_new number))
      ∙ sym (has_row-term filed_new key number))
