-- What becomes of the rows of a snapshot: of one row more.
use Rattle.std.proofs.Common.{◌≡◌, ℕ, zero, suc, ◌+◌, ◌<◌, ◌≤◌, ◌==◌, Bool, true, false, true≢false, cond, ◌||◌, List, [], ◌∷◌, ◌++◌, map, take, length, slice_get, Option, Some, None, refl, sym, ap, subst, ◌∙◌, arith, append-nil, append_assoc, ◌⊎◌, ⊎_elim, inl, inr, length-append}
use Rattle.std.proofs.lemmas.Bool.Decides.{nat_tests}
use Rattle.std.proofs.lemmas.List.{take_more, map-append, length-map, length-take-le}
use Rattle.std.proofs.lemmas.List.Folds.{list_any-append}
use Rattle.std.proofs.lemmas.Option.{slice_get_within, get_or_from_slice_get}
use Rattle.std.specs.List.{range_with_len}
use Rattle.std.specs.Option.{IfSome}
use Rattle.sc_record.specs.Writes.{Write}
use Rattle.sc_segment.specs.Index.{IsIndexOf}
use Rattle.sc_snapshot.specs.Change.{moves_to, is_kept, keyed_new, IsChange, LosesInPlace}
use Rattle.sc_snapshot.specs.Postings.{key_order, keyed, live_terms, without_ids}
use Rattle.sc_snapshot.specs.declared.change.Change.{Change}
use Rattle.sc_snapshot.specs.declared.term_key.TermKey.{TermKey}

or-false : (b : Bool) → (b || false) ≡ b
or-false true = refl
or-false false = refl

or-true : (b : Bool) → (b || true) ≡ true
or-true true = refl
or-true false = refl

itself : (x : ℕ) → (x == x) ≡ true
itself x = grind (arith, nat_tests)

apart : (x y : ℕ) → x < y → (y == x) ≡ false
apart x y h = grind (arith, nat_tests)

one_number : (x y : ℕ) → (x == y) ≡ true → x ≡ y
one_number x y h = grind (arith, nat_tests)

-- ---- which new rows are kept
is_kept-push : (moved : List (Option ℕ)) (o : Option ℕ) (number : ℕ) → is_kept (moved ++ o ∷ []) number ≡ (is_kept moved number || moves_to number o)
is_kept-push moved o number =
    list_any-append (moves_to number) moved (o ∷ []) ∙ ap (λ b. is_kept moved number || b) (or-false (moves_to number o))

moved_there : (number : ℕ) (o : Option ℕ) → moves_to number o ≡ true → o ≡ Some number
moved_there number None h = absurd (true≢false (sym h))
moved_there number (Some other) h = ap (λ n. Some n) (one_number other number h)

-- what is kept has an old row
pub kept_at : (moved : List (Option ℕ)) (number : ℕ) → is_kept moved number ≡ true → (at : ℕ) × (slice_get moved at ≡ Some (Some number))
kept_at [] number h = absurd (true≢false (sym h))
kept_at (o ∷ os) number h =
    elim (moves_to number o) as (λ b. moves_to number o ≡ b → (b || is_kept os number) ≡ true → (at : ℕ) × (slice_get (o ∷ os) at ≡ Some (Some number))) [
      | true ↦ λ here _. (0, ap (λ (x : Option ℕ). Some x) (moved_there number o here))
      | false ↦ λ _ later. let rest = kept_at os number later in (suc rest.0, rest.1)
    ] refl h

-- a number that no old row has is not kept
pub not_kept : (moved : List (Option ℕ)) (number : ℕ) → ((at : ℕ) → ¬ (slice_get moved at ≡ Some (Some number))) → is_kept moved number ≡ false
not_kept moved number none =
    elim (is_kept moved number) as (λ b. is_kept moved number ≡ b → b ≡ false) [
      | true ↦ λ h. let found = kept_at moved number h in absurd (none found.0 found.1)
      | false ↦ λ _. refl
    ] refl

-- what stands within a list
pub some_at : {X : Type 0} (xs : List X) (at : ℕ) → at < length xs → (x : X) × (slice_get xs at ≡ Some x)
some_at [] at within = absurd (omega (arith, within))
some_at (x ∷ xs) zero within = (x, refl)
some_at (x ∷ xs) (suc at) within = some_at xs at (omega (arith, within))

-- what stands in a list with one more at the end
pub at-push : {X : Type 0} (xs : List X) (x y : X) (at : ℕ) → slice_get (xs ++ x ∷ []) at ≡ Some y → (slice_get xs at ≡ Some y) ⊎ ((at ≡ length xs) × (x ≡ y))
at-push [] x y zero is = inr (refl, cc)
at-push [] x y (suc at) is = inl is
at-push (z ∷ zs) x y zero is = inl is
at-push (z ∷ zs) x y (suc at) is = ⊎_elim (λ before. inl before) (λ last. inr (ap suc last.0, last.1)) (at-push zs x y at is)

-- ---- the terms that are filed
pub keyed_new-agree : (one other : List (Option ℕ)) (from : ℕ) (rows : List Write)
    → ((number : ℕ) → number < from + length rows → is_kept one number ≡ is_kept other number) → keyed_new one from rows ≡ keyed_new other from rows
keyed_new-agree one other from [] agree = refl
keyed_new-agree one other from (row ∷ rows) agree =
    ap (λ b. cond b [] (keyed from (live_terms row)) ++ keyed_new one (from + 1) rows) (agree from (omega arith))
    ∙ ap (λ (ps : List (ℕ × TermKey)). cond (is_kept other from) [] (keyed from (live_terms row)) ++ ps)
    (keyed_new-agree one other (from + 1) rows (λ number below. agree number (omega (arith, below))))

keyed_new-push : (moved : List (Option ℕ)) (from number : ℕ) (rows : List Write) (row : Write) → from + length rows ≡ number
    → keyed_new moved from (rows ++ row ∷ []) ≡ keyed_new moved from rows ++ cond (is_kept moved number) [] (keyed number (live_terms row))
keyed_new-push moved from number [] row place =
    let here : from ≡ number = omega (arith, place) in
    append-nil (cond (is_kept moved from) [] (keyed from (live_terms row)))
    ∙ ap (λ n. cond (is_kept moved n) [] (keyed n (live_terms row))) here
keyed_new-push moved from number (first ∷ rows) row place =
    let head = cond (is_kept moved from) [] (keyed from (live_terms first)) in
    ap (λ (ps : List (ℕ × TermKey)). head ++ ps) (keyed_new-push moved (from + 1) number rows row (omega (arith, place)))
    ∙ sym (append_assoc head (keyed_new moved (from + 1) rows) (cond (is_kept moved number) [] (keyed number (live_terms row))))

pub take-next : (rows : List Write) (number : ℕ) (row : Write) → slice_get rows number ≡ Some row → take (number + 1) rows ≡ take number rows ++ row ∷ []
take-next rows number row is =
    take_more rows number row (slice_get_within rows number row is)
    ∙ ap (λ (w : Write). take number rows ++ w ∷ []) (get_or_from_slice_get rows number row row is)

-- the keys of the first rows, and those of the next
pub keyed_new-next : (moved : List (Option ℕ)) (number : ℕ) (rows : List Write) (row : Write) → slice_get rows number ≡ Some row
    → keyed_new moved 0 (map without_ids (take (number + 1) rows))
    ≡ keyed_new moved 0 (map without_ids (take number rows)) ++ cond (is_kept moved number) [] (keyed number (live_terms (without_ids row)))
keyed_new-next moved number rows row is =
    let within = slice_get_within rows number row is in
    let long = length-map (take number rows) without_ids ∙ length-take-le number rows (omega (arith, within)) in
    ap (λ (ws : List Write). keyed_new moved 0 (map without_ids ws)) (take-next rows number row is)
    ∙ ap (keyed_new moved 0) (map-append without_ids (take number rows) (row ∷ []))
    ∙ keyed_new-push moved 0 number (map without_ids (take number rows)) (without_ids row) (omega (arith, long))

few : (number : ℕ) (rows : List Write) → length (map without_ids (take number rows)) ≤ number
few zero rows = omega arith
few (suc number) [] = omega arith
few (suc number) (row ∷ rows) = let rest = few number rows in omega (arith, rest)

-- one more that is told is of none of the first numbers
pub same_kept : (moved : List (Option ℕ)) (o : Option ℕ) (number : ℕ) → moves_to number o ≡ false → is_kept (moved ++ o ∷ []) number ≡ is_kept moved number
same_kept moved o number h = is_kept-push moved o number ∙ ap (λ b. is_kept moved number || b) h ∙ or-false (is_kept moved number)

-- no keys are more, where the next row is kept
pub keyed_new-kept : (moved : List (Option ℕ)) (number : ℕ) (rows : List Write) (row : Write) → slice_get rows number ≡ Some row
    → keyed_new (moved ++ Some number ∷ []) 0 (map without_ids (take (number + 1) rows)) ≡ keyed_new moved 0 (map without_ids (take number rows))
keyed_new-kept moved number rows row is =
    let next = moved ++ Some number ∷ [] in
    let before = map without_ids (take number rows) in
    let short = few number rows in
    let kept : is_kept next number ≡ true =
    is_kept-push moved (Some number) number ∙ ap (λ b. is_kept moved number || b) (itself number) ∙ or-true (is_kept moved number) in
    keyed_new-next next number rows row is
    ∙ ap (λ b. keyed_new next 0 before ++ cond b [] (keyed number (live_terms (without_ids row)))) kept
    ∙ append-nil (keyed_new next 0 before)
    ∙ keyed_new-agree next moved 0 before (λ one below. same_kept moved (Some number) one (apart one number (omega (arith, below, short))))

module _ (old new : List Write) (low high : ℕ) (change : Change) (is : IsChange old new low high change) where
  abbrev moved : List (Option ℕ)
  moved = change.moved

  -- no number that is still to come is kept
  later_not_kept : (number : ℕ) → high ≤ number → is_kept moved number ≡ false
  later_not_kept number later =
      not_kept moved number (λ at h. let below = (is.kept at number h).0 in omega (arith, below, later))

  told-push : (o : Option ℕ) (next : Change) → next.moved ≡ moved ++ o ∷ [] → length next.moved ≡ low + 1
  told-push o next pushed =
      let long : length next.moved ≡ length moved + 1 = ap (λ (os : List (Option ℕ)). length os) pushed ∙ length-append moved (o ∷ []) in
      omega (arith, long, is.told)

  -- what is kept after one more is told
  kept-push : (o : Option ℕ) (next : Change) → next.moved ≡ moved ++ o ∷ [] → (bound : ℕ) → high ≤ bound
      → ((number : ℕ) → o ≡ Some number → (number < bound) × (slice_get old low ≡ slice_get new number))
      → (at number : ℕ) → slice_get next.moved at ≡ Some (Some number) → (number < bound) × (slice_get old at ≡ slice_get new number)
  kept-push o next pushed bound more last at number h = ⊎_elim
      (λ before. let told = is.kept at number before in (let below = told.0 in omega (arith, below, more), told.1))
      (λ here.
      let told = last number here.1 in
      let place : low ≡ at = omega (arith, here.0, is.told) in
      (told.0, subst (λ n. slice_get old n ≡ slice_get new number) place told.1))
      (at-push moved o (Some number) at (ap (λ (os : List (Option ℕ)). slice_get os at) (sym pushed) ∙ h))

  ascending-push : (o : Option ℕ) (next : Change) → next.moved ≡ moved ++ o ∷ [] → ((number : ℕ) → o ≡ Some number → high ≤ number)
      → (at later number other : ℕ) → at < later → slice_get next.moved at ≡ Some (Some number)
      → slice_get next.moved later ≡ Some (Some other) → number < other
  ascending-push o next pushed last at later number other before h k = ⊎_elim
      (λ first. ⊎_elim
      (λ second. is.ascending at later number other before first second)
      (λ second. let below = (is.kept at number first).0 in let above = last other second.1 in omega (arith, below, above))
      (at-push moved o (Some other) later (read later (Some other) k)))
      (λ first. ⊎_elim
      (λ second. let within = slice_get_within moved later (Some other) second in absurd (omega (arith, before, first.0, within)))
      (λ second. absurd (omega (arith, before, first.0, second.0)))
      (at-push moved o (Some other) later (read later (Some other) k)))
      (at-push moved o (Some number) at (read at (Some number) h))
    where
      read : (place : ℕ) (x : Option ℕ) → slice_get next.moved place ≡ Some x → slice_get (moved ++ o ∷ []) place ≡ Some x
      read place x is = ap (λ (os : List (Option ℕ)). slice_get os place) (sym pushed) ∙ is

  -- no row more is told
  pub same-step : (next : Change) → next.moved ≡ moved → next.added ≡ change.added → IfSome next.lost (LosesInPlace old low next.moved) → IsChange old new low high next
  same-step next items same lost = record {
    told = rw items is.told;
    kept = rw items is.kept;
    ascending = rw items is.ascending;
    filed = rw (items, same) is.filed;
    last_row = rw same is.last_row;
    lost = lost;
  }

  -- the next old row is not kept
  pub leave-step : (next : Change) → next.moved ≡ moved ++ None ∷ [] → next.added ≡ change.added → IfSome next.lost (LosesInPlace old (low + 1) next.moved)
      → IsChange old new (low + 1) high next
  leave-step next pushed same lost = record {
    told = told-push None next pushed;
    kept = kept-push None next pushed high (omega arith) (λ number h. cc);
    ascending = ascending-push None next pushed (λ number h. cc);
    filed = rw (pushed, same, keyed_new-agree (moved ++ None ∷ []) moved 0 (map without_ids (take high new)) (λ number _. same_kept moved None number refl)) is.filed;
    last_row = rw same is.last_row;
    lost = lost;
  }

  -- the next old row is the next new one
  pub keep-step : (row : Write) (next : Change) → next.moved ≡ moved ++ Some high ∷ [] → next.added ≡ change.added
      → slice_get old low ≡ Some row → slice_get new high ≡ Some row → IfSome next.lost (LosesInPlace old (low + 1) next.moved) → IsChange old new (low + 1) (high + 1) next
  keep-step row next pushed same at_old at_new lost = record {
    told = told-push (Some high) next pushed;
    kept = kept-push (Some high) next pushed (high + 1) (omega arith)
        (λ number h. let place : high ≡ number = cc in (omega (arith, place), at_old ∙ sym at_new ∙ ap (slice_get new) place));
    ascending = ascending-push (Some high) next pushed (λ number h. let place : high ≡ number = cc in omega (arith, place));
    filed = rw (pushed, same, keyed_new-kept moved high new row at_new) is.filed;
    last_row = let last = is.last_row in rw same (omega (arith, last));
    lost = lost;
  }

  -- the next new row is none of the old ones
  pub file-step : (row : Write) (next : Change) → next.moved ≡ change.moved → slice_get new high ≡ Some row → next.added.last_row ≤ high
      → ((added : List (ℕ × TermKey)) → IsIndexOf key_order added change.added.index → IsIndexOf key_order (added ++ keyed high (live_terms (without_ids row))) next.added.index)
      → IfSome next.lost (LosesInPlace old low next.moved) → IsChange old new low (high + 1) next
  file-step row next same at_new last filed lost = record {
    told = rw same is.told;
    kept = rw same (λ at number h. let told = is.kept at number h in (let below = told.0 in omega (arith, below), told.1));
    ascending = rw same is.ascending;
    filed = rw (same, keyed_new-next moved high new row at_new, later_not_kept high (omega arith)) (filed (keyed_new moved 0 (map without_ids (take high new))) is.filed);
    last_row = omega (arith, last);
    lost = lost;
  }

-- the next old rows, so many, are the next new ones
pub run-step : (old new : List Write) (count low high : ℕ) (change next : Change) → IsChange old new low high change
    → next.moved ≡ change.moved ++ map (λ number. Some number) (range_with_len high count) → next.added ≡ change.added
    → low + count ≤ length old → ((k : ℕ) → k < count → slice_get old (low + k) ≡ slice_get new (high + k))
    → IfSome next.lost (LosesInPlace old (low + count) next.moved) → IsChange old new (low + count) (high + count) next
run-step old new zero low high change next is pushed same within alike lost =
    let at_low : low ≡ low + zero = omega arith in
    let at_high : high ≡ high + zero = omega arith in
    subst (λ n. IsChange old new n (high + zero) next) at_low
    (subst (λ n. IsChange old new low n next) at_high (same-step old new low high change is next (pushed ∙ append-nil change.moved) same
    (subst (λ n. IfSome next.lost (LosesInPlace old n next.moved)) (sym at_low) lost)))
run-step old new (suc count) low high change next is pushed same within alike lost =
    let mid : Change = record { moved = change.moved ++ Some high ∷ []; added = change.added; lost = None; alone = change.alone } in
    let here = some_at old low (omega (arith, within)) in
    let old_place : low ≡ low + 0 = omega arith in
    let new_place : high + 0 ≡ high = omega arith in
    let there = ap (slice_get new) (sym new_place) ∙ sym (alike 0 (omega arith)) ∙ ap (slice_get old) (sym old_place) ∙ here.1 in
    let one = keep-step old new low high change is here.0 mid refl refl here.1 there tt in
    let rest = map (λ (number : ℕ). Some number) (range_with_len (high + 1) count) in
    let low_more : low + 1 + count ≡ low + suc count = omega arith in
    let high_more : high + 1 + count ≡ high + suc count = omega arith in
    subst (λ n. IsChange old new n (high + suc count) next) low_more
    (subst (λ n. IsChange old new (low + 1 + count) n next) high_more
    (run-step old new count (low + 1) (high + 1) mid next one (pushed ∙ sym (append_assoc change.moved (Some high ∷ []) rest)) same (omega (arith, within))
    (λ k below.
    let old_next : low + 1 + k ≡ low + suc k = omega arith in
    let new_next : high + suc k ≡ high + 1 + k = omega arith in
    ap (slice_get old) old_next ∙ alike (suc k) (omega (arith, below)) ∙ ap (slice_get new) new_next)
    (subst (λ n. IfSome next.lost (LosesInPlace old n next.moved)) (sym low_more) lost)))
