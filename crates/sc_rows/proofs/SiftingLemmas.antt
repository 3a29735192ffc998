-- Rows that are looked for in a list by marks.
use Rattle.std.proofs.Common.{◌≡◌, ◌≢◌, ℕ, ◌+◌, ◌-◌, ◌<◌, ◌≤◌, ◌==◌, zero, suc, Bool, true, false, not, ◌&&◌, ◌||◌, cond, List, [], ◌∷◌, All, length, get_or, set, take, slice_get, slice_index, Option, None, Some, IfSome, SomeIff, refl, ap, sym, ◌∙◌, arith, ⊎_elim}
use Rattle.std.proofs.lemmas.Bool.{cases_eq}
use Rattle.std.proofs.lemmas.Bool.Decides.{nat_tests}
use Rattle.std.proofs.lemmas.List.{get_or-set_other, get_or-set_same, length-set}
use Rattle.std.proofs.lemmas.List.Elements.{All-from_get_or}
use Rattle.std.proofs.lemmas.List.Folds.{list_any_more}
use Rattle.std.proofs.lemmas.List.Kept.{IsStrictlyIncreasing-filter}
use Rattle.std.proofs.lemmas.Option.{slice_get-get_or}
use Rattle.std.specs.Prelude.{filter}
use Rattle.std.specs.List.Sorted.{IsStrictlyIncreasing}
use Rattle.sc_rows.specs.declared.joining.Kept.{Kept}
use Rattle.sc_rows.specs.Joining.{has_row, keeps, IsJoin}
use Rattle.sc_rows.specs.Sifting.{KeepsOfLeft, sifted}

-- rows that ascend are farther apart than their places
rises : (rows : List ℕ) → IsStrictlyIncreasing rows → (i d : ℕ) → i + d < length rows → slice_index rows i ≤ slice_index rows (i + d)
rises rows up i zero within =
    let there : i ≡ i + zero = omega arith in
    let same : slice_index rows i ≡ slice_index rows (i + zero) = ap (slice_index rows) there in
    omega (arith, same)
rises rows up i (suc d) within =
    let before = rises rows up i d (omega (arith, within)) in
    let next = up (i + d) (omega (arith, within)) in
    let there : i + suc d ≡ i + d + 1 = omega arith in
    let same : slice_index rows (i + suc d) ≡ slice_index rows (i + d + 1) = ap (slice_index rows) there in
    omega (arith, before, next, same)

-- no row of a list that ascends is above the last
pub below_end : (rows : List ℕ) (end : ℕ) → IsStrictlyIncreasing rows → slice_index rows (length rows - 1) < end → All (λ row. row < end) rows
below_end rows end up last =
    All-from_get_or (λ row. row < end) rows 0 (λ i within.
    let there : i + (length rows - 1 - i) ≡ length rows - 1 = omega (arith, within) in
    let low = rises rows up i (length rows - 1 - i) (omega (arith, within)) in
    let high : slice_index rows i ≤ slice_index rows (length rows - 1) = rw there at low in
    omega (arith, high, last))

pub is_same : (m n : ℕ) → m ≡ n → (m == n) ≡ true
is_same m n h = grind (arith, nat_tests)

pub is_other : (m n : ℕ) → m ≢ n → (m == n) ≡ false
is_other m n h = grind (arith, nat_tests)

or_true : (b : Bool) → (b || true) ≡ true
or_true true = refl
or_true false = refl

or_false : (b : Bool) → (b || false) ≡ b
or_false true = refl
or_false false = refl

-- one row more is cleared
pub marks_more : (rows : List ℕ) (absent : List Bool) (end at : ℕ) → at < length rows → slice_index rows at < end → length absent ≡ end
    → ((row : ℕ) → row < end → slice_get absent row ≡ Some (not (has_row (take at rows) row)))
    → (row : ℕ) → row < end → slice_get (set absent (slice_index rows at) false) row ≡ Some (not (has_row (take (at + 1) rows) row))
marks_more rows absent end at within below long marks row low =
    let one = slice_index rows at in
    let more : has_row (take (at + 1) rows) row ≡ (has_row (take at rows) row || (one == row)) = list_any_more (λ r. r == row) rows at 0 within in
    let fits : row < length (set absent one false) = rw (length-set absent one false, long) low in
    let read = slice_get-get_or (set absent one false) row false fits in
    ⊎_elim
    (λ (same : row ≡ one).
    let has : has_row (take (at + 1) rows) row ≡ true = more ∙ ap (λ b. has_row (take at rows) row || b) (is_same one row (sym same)) ∙ or_true (has_row (take at rows) row) in
    let there : one < length absent = rw long below in
    read ∙ ap Some (ap (λ i. get_or (set absent one false) i false) same ∙ get_or-set_same absent one false false there ∙ ap not (sym has)))
    (λ apart.
    let has : has_row (take (at + 1) rows) row ≡ has_row (take at rows) row = more ∙ ap (λ b. has_row (take at rows) row || b) (is_other one row (λ same. apart (sym same))) ∙ or_false (has_row (take at rows) row) in
    let old : row < length absent = rw long low in
    read ∙ ap Some (get_or-set_other absent one row false false apart) ∙ sym (slice_get-get_or absent row false old) ∙ marks row low ∙ ap (λ b. Some (not b)) (sym has))
    (cases_eq row one)

same_row : (x n : ℕ) → (x == n) ≡ true → x ≡ n
same_row x n h = grind (arith, nat_tests)

and_false : (b : Bool) → (b && false) ≡ false
and_false true = refl
and_false false = refl

filter-first : (p : ℕ → Bool) (x : ℕ) (rows : List ℕ) (row : ℕ) → has_row (filter p rows) row ≡ (has_row rows row && p row) → (b e : Bool) → p x ≡ b → (x == row) ≡ e
    → has_row (cond (p x) (x ∷ filter p rows) (filter p rows)) row ≡ (((x == row) || has_row rows row) && p row)
filter-first p x rows row rest true true is here =
    let other : p row ≡ true = ap p (sym (same_row x row here)) ∙ is in
    rw (is, here) (sym other)
filter-first p x rows row rest true false is here = rw (is, here) rest
filter-first p x rows row rest false true is here =
    let other : p row ≡ false = ap p (sym (same_row x row here)) ∙ is in
    rw (is, here) (rest ∙ ap (λ b. has_row rows row && b) other ∙ and_false (has_row rows row) ∙ sym other)
filter-first p x rows row rest false false is here = rw (is, here) rest

-- a row passes a filter where the list has it and the test holds
has_row-filter : (p : ℕ → Bool) (rows : List ℕ) (row : ℕ) → has_row (filter p rows) row ≡ (has_row rows row && p row)
has_row-filter p [] row = refl
has_row-filter p (x ∷ rows) row = filter-first p x rows row (has_row-filter p rows row) (p x) (x == row) refl refl

-- what is some number, if it is one
pub some_exact : (answer : Option ℕ) (P : Type 0) (exact : ℕ) (Q : ℕ → Type 0) → SomeIff answer P exact → ((end : ℕ) → end ≡ exact → Q end) → IfSome answer Q
some_exact None P exact Q is of = tt
some_exact (Some x) P exact Q is of = of x is.1

-- those of the left list that are kept, where no row is kept that the right one has alone, are the join
pub IsJoin-sifted : (how : Kept) (wanted : Bool) (left right : List ℕ) → IsStrictlyIncreasing left
    → KeepsOfLeft how wanted → IsJoin how left right (sifted right wanted left)
IsJoin-sifted how wanted left right up kept =
    record {
      members = λ row. has_row-filter (λ r. cond wanted (has_row right r) (not (has_row right r))) left row ∙ both (has_row left row) (has_row right row);
      ascending = IsStrictlyIncreasing-filter (λ r. cond wanted (has_row right r) (not (has_row right r))) left up;
    }
  where
    both : (in_left in_right : Bool) → (in_left && cond wanted in_right (not in_right)) ≡ keeps how in_left in_right
    both true in_right = sym (kept.left in_right)
    both false in_right = sym (kept.others in_right)
