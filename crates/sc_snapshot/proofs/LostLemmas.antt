-- What is lost where each row that is kept has its own number: of one old row more, and which rows keep their numbers by it.
use Rattle.std.proofs.Common.{◌≡◌, ℕ, zero, suc, ◌+◌, ◌<◌, ◌≤◌, ◌==◌, Bool, true, false, true≢false, cond, not, ◌&&◌, ◌||◌, List, [], ◌∷◌, ◌++◌, map, take, length, slice_get, get_or, Option, Some, None, refl, sym, ap, subst, ◌∙◌, arith, append-nil, append_assoc, ◌⊎◌, ⊎_elim, length-append}
use Rattle.std.proofs.Math.Seq.{take-length}
use Rattle.std.proofs.lemmas.Bool.Decides.{nat_tests}
use Rattle.std.proofs.lemmas.Option.{slice_get_within, get_or_from_slice_get, IfSome_then}
use Rattle.std.specs.List.{range_with_len}
use Rattle.std.specs.Option.{IfSome}
use Rattle.sc_record.specs.Writes.{Write}
use Rattle.sc_rows.specs.Moving.{new_number}
use Rattle.sc_rows.specs.Joining.{has_row}
use Rattle.sc_segment.proofs.IndexLemmas.{rows_at-index}
use Rattle.sc_segment.specs.Carrying.{OthersStay}
use Rattle.sc_segment.specs.Filing.{BuilderState}
use Rattle.sc_segment.specs.Index.{IsIndexOf, rows_at}
use Rattle.sc_snapshot.specs.Change.{is_kept, keyed_new, IsChange, LosesInPlace}
use Rattle.sc_snapshot.specs.Postings.{key_order, keyed, keyed_rows, has_term, live_terms, without_ids}
use Rattle.sc_snapshot.specs.declared.change.Change.{Change}
use Rattle.sc_snapshot.specs.declared.term_key.TermKey.{TermKey}
use Rattle.sc_snapshot.proofs.ChangeLemmas.{at-push, kept_at, keyed_new-agree, keyed_new-kept, keyed_new-next, not_kept, same_kept, some_at}
use Rattle.sc_snapshot.proofs.EntryLemmas.{rows_at-entry}
use Rattle.sc_snapshot.proofs.NextLemmas.{keys_total}
use Rattle.sc_snapshot.proofs.PostingLemmas.{has_row-term, has_row-new}

-- ---- one old row more
module _ (old : List Write) (low : ℕ) (moved : List (Option ℕ)) (lost : BuilderState TermKey) (told : length moved ≡ low) (is : LosesInPlace old low moved lost) where
  -- the next old row has no number yet
  none-kept : is_kept moved low ≡ false
  none-kept = not_kept moved low
      (λ at h. let own = is.own at low h in let within = slice_get_within moved at (Some low) h in absurd (omega (arith, own, within, told)))

  -- its terms are filed, where it is not kept
  pub lose-row : (row : Write) (next : BuilderState TermKey) → slice_get old low ≡ Some row → next.last_row ≤ low
      → ((added : List (ℕ × TermKey)) → IsIndexOf key_order added lost.index → IsIndexOf key_order (added ++ keyed low (live_terms (without_ids row))) next.index)
      → LosesInPlace old (low + 1) (moved ++ None ∷ []) next
  lose-row row next at_old last filed = record {
    own = λ at number h. ⊎_elim (λ before. is.own at number before) (λ here. let no : None ≡ Some number = here.1 in cc) (at-push moved None (Some number) at h);
    filed = subst (λ (ps : List (ℕ × TermKey)). IsIndexOf key_order ps next.index) (sym pairs) (filed (keyed_new moved 0 (map without_ids (take low old))) is.filed);
    last_row = omega (arith, last);
  }
    where
      pairs : keyed_new (moved ++ None ∷ []) 0 (map without_ids (take (low + 1) old))
          ≡ keyed_new moved 0 (map without_ids (take low old)) ++ keyed low (live_terms (without_ids row))
      pairs =
          let next_moved = moved ++ None ∷ [] in
          let before = map without_ids (take low old) in
          let here = keyed low (live_terms (without_ids row)) in
          keyed_new-next next_moved low old row at_old
          ∙ ap (λ b. keyed_new next_moved 0 before ++ cond b [] here) (same_kept moved None low refl ∙ none-kept)
          ∙ ap (λ (ps : List (ℕ × TermKey)). ps ++ here) (keyed_new-agree next_moved moved 0 before (λ number _. same_kept moved None number refl))

  -- and none are, where it keeps its number
  own-row : low < length old → LosesInPlace old (low + 1) (moved ++ Some low ∷ []) lost
  own-row within =
      let there = some_at old low within in
      let last = is.last_row in
      record {
        own = λ at number h. ⊎_elim
            (λ before. is.own at number before)
            (λ here. let same : low ≡ number = cc in omega (arith, here.0, same, told))
            (at-push moved (Some low) (Some number) at h);
        filed = subst (λ (ps : List (ℕ × TermKey)). IsIndexOf key_order ps lost.index) (sym (keyed_new-kept moved low old there.0 there.1)) is.filed;
        last_row = omega (arith, last);
      }

-- no old row more is told
own-none : (old : List Write) (low : ℕ) (moved : List (Option ℕ)) (lost : BuilderState TermKey) → LosesInPlace old low moved lost
    → LosesInPlace old (low + 0) (moved ++ []) lost
own-none old low moved lost is =
    let place : low ≡ low + 0 = omega arith in
    subst (λ n. LosesInPlace old n (moved ++ []) lost) place (subst (λ (os : List (Option ℕ)). LosesInPlace old low os lost) (sym (append-nil moved)) is)

-- so many old rows more keep their numbers
own-rows : (old : List Write) (count low : ℕ) (moved : List (Option ℕ)) (lost : BuilderState TermKey) → length moved ≡ low → low + count ≤ length old
    → LosesInPlace old low moved lost → LosesInPlace old (low + count) (moved ++ map (λ number. Some number) (range_with_len low count)) lost
own-rows old zero low moved lost told within is = own-none old low moved lost is
own-rows old (suc count) low moved lost told within is =
    let one = own-row old low moved lost told is (omega (arith, within)) in
    let next = moved ++ Some low ∷ [] in
    let long : length next ≡ low + 1 = length-append moved (Some low ∷ []) ∙ ap (λ n. n + 1) told in
    let rest = map (λ (number : ℕ). Some number) (range_with_len (low + 1) count) in
    let more : low + 1 + count ≡ low + suc count = omega arith in
    subst (λ n. LosesInPlace old n (moved ++ Some low ∷ rest) lost) more
    (subst (λ (os : List (Option ℕ)). LosesInPlace old (low + 1 + count) os lost) (append_assoc moved (Some low ∷ []) rest)
    (own-rows old count (low + 1) next lost long (omega (arith, within)) one))

-- a run of old rows is told, which is empty or whose rows keep their numbers
pub run-lost : (old : List Write) (from number count : ℕ) (moved : List (Option ℕ)) (lost : Option (BuilderState TermKey)) → length moved ≡ from
    → from + count ≤ length old → (count ≡ 0) ⊎ (from ≡ number) → IfSome lost (LosesInPlace old from moved)
    → IfSome lost (LosesInPlace old (from + count) (moved ++ map (λ number. Some number) (range_with_len number count)))
run-lost old from number count moved lost told within how is = IfSome_then lost is (λ these loses. ⊎_elim
    (λ none. subst (λ n. LosesInPlace old (from + n) (moved ++ map (λ (one : ℕ). Some one) (range_with_len number n)) these) (sym none)
    (own-none old from moved these loses))
    (λ same. subst (λ n. LosesInPlace old (from + count) (moved ++ map (λ (one : ℕ). Some one) (range_with_len n count)) these) same
    (own-rows old count from moved these told within loses))
    how)

-- ---- which rows keep their numbers
itself : (x : ℕ) → (x == x) ≡ true
itself x = grind (arith, nat_tests)

-- a row is found where it stands
row-at : (rows : List ℕ) (k d : ℕ) → k < length rows → has_row rows (get_or rows k d) ≡ true
row-at [] k d within = absurd (omega (arith, within))
row-at (row ∷ rows) zero d within = ap (λ b. b || has_row rows row) (itself row)
row-at (row ∷ rows) (suc k) d within =
    let there = row-at rows k d (omega (arith, within)) in
    elim (row == get_or rows k d) as (λ b. (b || has_row rows (get_or rows k d)) ≡ true) [ true ↦ refl | false ↦ there ]

-- what has a term and is not filed is kept
by-kept : (kept has : Bool) → has ≡ true → (not kept && has) ≡ false → kept ≡ true
by-kept true has there none = refl
by-kept false has there none = absurd (true≢false (sym there ∙ none))

module _ (old : List Write) (moved : List (Option ℕ)) (lost : BuilderState TermKey) (is : LosesInPlace old (length old) moved lost) where
  -- the rows as they are filed
  abbrev filed_old : List Write
  filed_old = map without_ids old

  all_filed : IsIndexOf key_order (keyed_new moved 0 filed_old) lost.index
  all_filed = subst (λ (rows : List Write). IsIndexOf key_order (keyed_new moved 0 (map without_ids rows)) lost.index) (take-length old) is.filed

  -- a row that has the term of a key keeps its number, where the key has no rows among the lost
  own-number : (key : TermKey) (row : ℕ) → rows_at key_order lost.index key ≡ [] → has_term key.term (slice_get filed_old row) ≡ true → new_number moved row ≡ Some row
  own-number key row none has =
      let gone : (not (is_kept moved row) && has_term key.term (slice_get filed_old row)) ≡ false =
      sym (has_row-new moved filed_old key row)
      ∙ ap (λ (rs : List ℕ). has_row rs row) (sym (rows_at-index keys_total (keyed_new moved 0 filed_old) lost.index all_filed key) ∙ none) in
      let spot = kept_at moved row (by-kept (is_kept moved row) (has_term key.term (slice_get filed_old row)) has gone) in
      let own = is.own spot.0 row spot.1 in
      get_or_from_slice_get moved row (Some row) None (subst (λ n. slice_get moved n ≡ Some (Some row)) (sym own) spot.1)

  stays : (index : List (TermKey × List ℕ)) → IsIndexOf key_order (keyed_rows 0 filed_old) index → OthersStay key_order moved index lost.index
  stays index terms = λ i e at none k d within.
      own-number e.0 (get_or e.1 k d) none
      (sym (has_row-term filed_old e.0 (get_or e.1 k d))
      ∙ ap (λ (rs : List ℕ). has_row rs (get_or e.1 k d))
      (sym (rows_at-index keys_total (keyed_rows 0 filed_old) index terms e.0) ∙ rows_at-entry keys_total (keyed_rows 0 filed_old) index terms i e at)
      ∙ row-at e.1 k d within)

-- where what is lost is told, the rows of all other keys keep their numbers
pub others_stay : (old new : List Write) (high : ℕ) (change : Change) → IsChange old new (length old) high change
    → (index : List (TermKey × List ℕ)) → IsIndexOf key_order (keyed_rows 0 (map without_ids old)) index
    → IfSome change.lost (λ lost. OthersStay key_order change.moved index lost.index)
others_stay old new high change is index terms = IfSome_then change.lost is.lost (λ lost loses. stays old change.moved lost loses index terms)
