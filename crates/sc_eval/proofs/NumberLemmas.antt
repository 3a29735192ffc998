-- The numbers of the rows that pass a test lead to these rows, in their order.
use Rattle.std.proofs.Common.{◌≡◌, ℕ, zero, suc, ◌+◌, ◌<◌, ◌==◌, Bool, true, false, cond, ◌&&◌, ◌||◌, List, [], ◌∷◌, ◌++◌, map, filter, length, is_some, option_to_list, Option, Some, None, slice_get, All, refl, sym, ap, subst, ◌∙◌, arith}
use Rattle.std.proofs.lemmas.List.{length-map}
use Rattle.std.specs.List.{flat_map}
use Rattle.std.proofs.lemmas.Bool.Decides.{nat_tests}
use Rattle.std.proofs.lemmas.List.Kept.{IsStrictlyIncreasing-filter}
use Rattle.std.proofs.lemmas.Option.{slice_get_within, get_or_from_slice_get}
use Rattle.sc_hash.specs.Bounds.{bounds, contains}
use Rattle.sc_hash.specs.declared.range.Range.{Range}
use Rattle.sc_record.specs.Writes.{Write}
use Rattle.sc_rows.specs.Joining.{has_row}
use Rattle.sc_rows.proofs.JoinLemmas.{AscendFrom, ascend_weaker, increasing_from_ascend, none_below}
use Rattle.sc_rows.proofs.SameRowsLemmas.{same_rows}
use Rattle.sc_eval.specs.Criteria.{Criterion}
use Rattle.sc_eval.specs.Matching.{matches, is_live, finds}
use Rattle.sc_eval.specs.Numbers.{passes, is_match, finds_at, row_in, IsBeginning, AreMatches, AreNumbersOf}
use Rattle.sc_eval.specs.declared.numbers.Matches.{Matches}

apart : (x y : ℕ) → x < y → (x == y) ≡ false
apart x y h = grind (arith, nat_tests)

itself : (x : ℕ) → (x == x) ≡ true
itself x = grind (arith, nat_tests)

equal : (x y : ℕ) → (x == y) ≡ true → x ≡ y
equal x y h = grind (arith, nat_tests)

module _ (test : Write → Bool) where
  -- the numbers of the rows that pass, counted from this one
  abbrev numbers_from : ℕ → List Write → List ℕ
  numbers_from from [] = []
  numbers_from from (row ∷ rows) = cond (test row) (from ∷ numbers_from (from + 1) rows) (numbers_from (from + 1) rows)

  numbers-ascend : (from : ℕ) (rows : List Write) → AscendFrom from (numbers_from from rows)
  numbers-ascend from [] = tt
  numbers-ascend from (row ∷ rows) =
      elim (test row) as (λ b. AscendFrom from (cond b (from ∷ numbers_from (from + 1) rows) (numbers_from (from + 1) rows))) [
        | true ↦ (omega arith, numbers-ascend (from + 1) rows)
        | false ↦ ascend_weaker from (from + 1) (numbers_from (from + 1) rows) (omega arith) (numbers-ascend (from + 1) rows)
      ]

  numbers-have : (from k : ℕ) (rows : List Write) → has_row (numbers_from from rows) (from + k) ≡ passes test (slice_get rows k)
  numbers-have from zero [] = refl
  numbers-have from (suc k) [] = refl
  numbers-have from zero (row ∷ rows) =
      let here : from + zero ≡ from = omega arith in
      let none = none_below from (from + 1) (numbers_from (from + 1) rows) (omega arith) (numbers-ascend (from + 1) rows) in
      ap (has_row (numbers_from from (row ∷ rows))) here
      ∙ elim (test row) as (λ b. has_row (cond b (from ∷ numbers_from (from + 1) rows) (numbers_from (from + 1) rows)) from ≡ b) [
        | true ↦ ap (λ b. b || has_row (numbers_from (from + 1) rows) from) (itself from)
        | false ↦ none
      ]
  numbers-have from (suc k) (row ∷ rows) =
      let place : from + suc k ≡ from + 1 + k = omega arith in
      let before : from < from + suc k = omega arith in
      let later : has_row (numbers_from (from + 1) rows) (from + suc k) ≡ passes test (slice_get rows k) =
      ap (has_row (numbers_from (from + 1) rows)) place ∙ numbers-have (from + 1) k rows in
      elim (test row) as (λ b. has_row (cond b (from ∷ numbers_from (from + 1) rows) (numbers_from (from + 1) rows)) (from + suc k) ≡ passes test (slice_get rows k)) [
        | true ↦ ap (λ b. b || has_row (numbers_from (from + 1) rows) (from + suc k)) (apart from (from + suc k) before) ∙ later
        | false ↦ later
      ]

  numbers-lead : (whole : List Write) (from : ℕ) (rows : List Write) → ((k : ℕ) → slice_get whole (from + k) ≡ slice_get rows k)
      → map (slice_get whole) (numbers_from from rows) ≡ map (λ (row : Write). Some row) (filter test rows)
  numbers-lead whole from [] all = refl
  numbers-lead whole from (row ∷ rows) all =
      let start : from ≡ from + zero = omega arith in
      let here : slice_get whole from ≡ Some row = ap (slice_get whole) start ∙ all zero in
      let rest = numbers-lead whole (from + 1) rows
      (λ k. let place : from + 1 + k ≡ from + suc k = omega arith in ap (slice_get whole) place ∙ all (suc k)) in
      elim (test row) as (λ b. map (slice_get whole) (cond b (from ∷ numbers_from (from + 1) rows) (numbers_from (from + 1) rows)) ≡ map (λ (r : Write). Some r) (cond b (row ∷ filter test rows) (filter test rows))) [
        | true ↦ rw (here, rest) refl
        | false ↦ rest
      ]

  numbers-are : (rows : List Write) (numbers : List ℕ) → AreNumbersOf test rows numbers → numbers ≡ numbers_from 0 rows
  numbers-are rows numbers are =
      same_rows numbers (numbers_from 0 rows) are.ascending (increasing_from_ascend 0 (numbers_from 0 rows) (numbers-ascend 0 rows))
      (λ number.
      let place : number ≡ 0 + number = omega arith in
      are.members number ∙ sym (numbers-have 0 number rows) ∙ sym (ap (has_row (numbers_from 0 rows)) place))

  -- there are such numbers
  pub numbers-there : (rows : List Write) → (numbers : List ℕ) × AreNumbersOf test rows numbers
  numbers-there rows = (
    numbers_from 0 rows,
    record {
      members = λ number. let place : number ≡ 0 + number = omega arith in ap (has_row (numbers_from 0 rows)) place ∙ numbers-have 0 number rows;
      ascending = increasing_from_ascend 0 (numbers_from 0 rows) (numbers-ascend 0 rows);
    },
  )

  -- at the numbers, whoever found them, there are the rows that pass, in their order
  pub led : (rows : List Write) (numbers : List ℕ) → AreNumbersOf test rows numbers
      → map (slice_get rows) numbers ≡ map (λ (row : Write). Some row) (filter test rows)
  led rows numbers are =
      ap (map (slice_get rows)) (numbers-are rows numbers are)
      ∙ numbers-lead rows 0 rows (λ k. let place : 0 + k ≡ k = omega arith in ap (slice_get rows) place)

  -- and there are as many
  pub as-many : (rows : List Write) (numbers : List ℕ) → AreNumbersOf test rows numbers → length numbers ≡ length (filter test rows)
  as-many rows numbers are =
      sym (length-map numbers (slice_get rows)) ∙ ap length (led rows numbers are) ∙ length-map (filter test rows) (λ (row : Write). Some row)

-- a filter keeps of the numbers those that pass
has_row-filter : (p : ℕ → Bool) (numbers : List ℕ) (number : ℕ)
    → has_row (filter p numbers) number ≡ (has_row numbers number && p number)
has_row-filter p [] number = refl
has_row-filter p (x ∷ xs) number = by (has_row-filter p xs number) (p x) refl (x == number) refl
  where
    failed : (b : Bool) → (b && false) ≡ false
    failed true = refl
    failed false = refl

    by : has_row (filter p xs) number ≡ (has_row xs number && p number) → (b : Bool) → p x ≡ b → (same : Bool) → (x == number) ≡ same
        → has_row (cond (p x) (x ∷ filter p xs) (filter p xs)) number ≡ (((x == number) || has_row xs number) && p number)
    by rest true is true at =
        let here : p number ≡ true = ap p (sym (equal x number at)) ∙ is in
        rw (is, at) (sym here)
    by rest true is false at = rw (is, at) rest
    by rest false is true at =
        let here : p number ≡ false = ap p (sym (equal x number at)) ∙ is in
        rw (is, at) (rest ∙ ap (λ b. has_row xs number && b) here ∙ failed (has_row xs number) ∙ sym here)
    by rest false is false at = rw (is, at) rest

module _ (range : Range) (criterion : Criterion) (rows : List Write) where
  within : (live hash m : Bool) (row : Write) → ((live && m) && is_some (cond hash (Some row) None)) ≡ ((live && hash) && m)
  within false hash m row = refl
  within true true true row = refl
  within true true false row = refl
  within true false true row = refl
  within true false false row = refl

  found-row : (row : Option Write) → (passes (is_match criterion) row && is_some (row_in range row)) ≡ finds_at range criterion row
  found-row None = refl
  found-row (Some row) = within (is_live row) (contains row.hash (bounds range)) (matches criterion row) row

  -- of the numbers of the rows that match those whose hashes are in the range are those of the rows that are found
  pub numbers-in : (numbers found : List ℕ) → AreNumbersOf (is_match criterion) rows numbers
      → found ≡ filter (λ number. is_some (row_in range (slice_get rows number))) numbers
      → AreNumbersOf (finds range criterion) rows found
  numbers-in numbers found are is =
      let keep : ℕ → Bool = λ number. is_some (row_in range (slice_get rows number)) in
      subst (AreNumbersOf (finds range criterion) rows) (sym is) (record {
        members = λ number. has_row-filter keep numbers number
            ∙ ap (λ b. b && keep number) (are.members number) ∙ found-row (slice_get rows number);
        ascending = IsStrictlyIncreasing-filter keep numbers are.ascending;
      })

  inside : (live hash m : Bool) → hash ≡ true → (live && m) ≡ ((live && hash) && m)
  inside false hash m is = refl
  inside true true m is = refl
  inside true false m is = cc

  all-row : All (λ (row : Write). contains row.hash (bounds range) ≡ true) rows → (number : ℕ) (row : Option Write) → slice_get rows number ≡ row
      → passes (is_match criterion) row ≡ finds_at range criterion row
  all-row all number None at = refl
  all-row all number (Some row) at =
      inside (is_live row) (contains row.hash (bounds range)) (matches criterion row)
      (subst (λ (each : Write). contains each.hash (bounds range) ≡ true) (get_or_from_slice_get rows number row row at)
      (all number row (slice_get_within rows number row at)))

  -- and all of them are, where the range has all hashes
  pub numbers-all : (numbers : List ℕ) → All (λ (row : Write). contains row.hash (bounds range) ≡ true) rows
      → AreNumbersOf (is_match criterion) rows numbers → AreNumbersOf (finds range criterion) rows numbers
  numbers-all numbers all are = record {
    members = λ number. are.members number ∙ all-row all number (slice_get rows number) refl;
    ascending = are.ascending;
  }

  -- the numbers of the rows that are found, counted, and the first of them are what a search gives
  pub are-matches : (numbers : List ℕ) (most : ℕ) (found : Matches) → AreNumbersOf (finds range criterion) rows numbers
      → IsBeginning most numbers found → AreMatches range criterion rows most found
  are-matches numbers most found are first = record {
    numbers = numbers;
    members = are.members;
    ascending = are.ascending;
    beginning = first;
  }

  led-in : (numbers : List ℕ) (ws : List Write) → map (slice_get rows) numbers ≡ map (λ (row : Write). Some row) ws
      → flat_map (λ number. option_to_list (row_in range (slice_get rows number))) numbers
      ≡ filter (λ (row : Write). contains row.hash (bounds range)) ws
  led-in [] [] is = refl
  led-in [] (w ∷ ws) is = cc
  led-in (n ∷ ns) [] is = cc
  led-in (n ∷ ns) (w ∷ ws) is =
      let here : slice_get rows n ≡ Some w = cc in
      let later : map (slice_get rows) ns ≡ map (λ (row : Write). Some row) ws = cc in
      let rest = led-in ns ws later in
      ap (λ (r : Option Write). option_to_list (row_in range r) ++ flat_map (λ number. option_to_list (row_in range (slice_get rows number))) ns) here
      ∙ by (contains w.hash (bounds range)) rest
    where
      by : (b : Bool) {found kept : List Write} → found ≡ kept → option_to_list (cond b (Some w) None) ++ found ≡ cond b (w ∷ kept) kept
      by true same = ap (λ (l : List Write). w ∷ l) same
      by false same = same

  filter-found : (ws : List Write) → filter (λ (row : Write). contains row.hash (bounds range)) (filter (is_match criterion) ws)
      ≡ filter (finds range criterion) ws
  filter-found [] = refl
  filter-found (w ∷ ws) = by (is_live w) (matches criterion w) (contains w.hash (bounds range)) refl (filter (is_match criterion) ws)
      (filter (finds range criterion) ws) (filter-found ws)
    where
      by : (live m hash : Bool) → contains w.hash (bounds range) ≡ hash → (matched found : List Write)
          → filter (λ (row : Write). contains row.hash (bounds range)) matched ≡ found
          → filter (λ (row : Write). contains row.hash (bounds range)) (cond (live && m) (w ∷ matched) matched)
          ≡ cond ((live && hash) && m) (w ∷ found) found
      by false m hash is matched found rest = rest
      by true true true is matched found rest =
          ap (λ b. cond b (w ∷ filter (λ (row : Write). contains row.hash (bounds range)) matched) (filter (λ (row : Write). contains row.hash (bounds range)) matched)) is
          ∙ ap (λ (l : List Write). w ∷ l) rest
      by true true false is matched found rest =
          ap (λ b. cond b (w ∷ filter (λ (row : Write). contains row.hash (bounds range)) matched) (filter (λ (row : Write). contains row.hash (bounds range)) matched)) is
          ∙ rest
      by true false true is matched found rest = rest
      by true false false is matched found rest = rest

  -- the rows that are found, at the numbers of those that match
  pub rows-in : (numbers : List ℕ) → AreNumbersOf (is_match criterion) rows numbers
      → flat_map (λ number. option_to_list (row_in range (slice_get rows number))) numbers ≡ filter (finds range criterion) rows
  rows-in numbers are = led-in numbers (filter (is_match criterion) rows) (led (is_match criterion) rows numbers are) ∙ filter-found rows
