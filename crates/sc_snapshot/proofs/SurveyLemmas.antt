-- A survey of the first rows: of one row more, and of all.
use Rattle.std.proofs.Common.{◌≡◌, ◌≤ℤ◌, ℕ, ℤ, zero, suc, ◌+◌, ◌-◌, ◌<◌, ◌≤◌, Bool, true, false, cond, is_some, List, [], ◌∷◌, ◌++◌, All, map, take, length, set, replicate, slice_get, Option, Some, None, refl, sym, ap, subst, ◌∙◌, arith, append_assoc, append-nil}
use Rattle.std.proofs.Math.ListN.{length-set}
use Rattle.std.proofs.Math.Seq.{set-append_seam, take-length}
use Rattle.std.proofs.lemmas.Int.{ints}
use Rattle.std.proofs.lemmas.List.{map-append, length-map, length-take-le}
use Rattle.std.proofs.lemmas.Option.{slice_get-map}
use Rattle.std.specs.List.{AllByRecursion, range_with_len}
use Rattle.std.specs.Option.{option_map}
use Rattle.sc_record.specs.Writes.{Write}
use Rattle.sc_rows.proofs.MovedLemmas.{run-put}
use Rattle.sc_snapshot.proofs.ChangeLemmas.{some_at, take-next}
use Rattle.sc_snapshot.proofs.LiveLemmas.{passing-next, passing-live}
use Rattle.sc_snapshot.specs.Postings.{is_live_at, AreLiveRows, IsSurvey}
use Rattle.sc_snapshot.specs.Surveying.{live_numbers, AreSurveyed, BoundsHashOf, HasBoundsOf}
use Rattle.sc_snapshot.specs.declared.survey.Survey.{Survey}

-- whether a row is live
abbrev pub live : Write → Bool
live row = is_some row.doc

-- a row that is told is live as it is told
pub told_live : (o : Option Write) (b : Bool) → option_map live o ≡ Some b → is_live_at o ≡ b
told_live None b is = cc
told_live (Some row) b is = cc

live-at : (rows : List Write) (number : ℕ) (row : Write) (b : Bool) → slice_get rows number ≡ Some row → is_live_at (slice_get rows number) ≡ b
    → live row ≡ b
live-at rows number row b is told = sym (ap is_live_at is) ∙ told

-- whether each of the first rows is live, with one row more
take-live : (rows : List Write) (number : ℕ) (is_live : Bool) → number < length rows → is_live_at (slice_get rows number) ≡ is_live
    → map live (take (number + 1) rows) ≡ map live (take number rows) ++ is_live ∷ []
take-live rows number is_live within told =
    let row = some_at rows number within in
    ap (map live) (take-next rows number row.0 row.1) ∙ map-append live (take number rows) (row.0 ∷ [])
    ∙ ap (λ b. map live (take number rows) ++ b ∷ []) (live-at rows number row.0 is_live row.1 told)

-- nothing is surveyed yet
pub surveyed-none : (rows : List Write) (survey : Survey) → survey.live_rows.items ≡ [] → survey.live_bits ≡ replicate (length rows) true
    → AreSurveyed rows 0 survey
surveyed-none rows survey numbers bits = record {
  live_rows = numbers;
  live_bits = bits ∙ ap (λ n. replicate n true) (let all : length rows ≡ length rows - 0 = omega arith in all);
}

-- a mark more is one of as many
pub marked-size : (is_live : Bool) (one other : List Bool) (number : ℕ) → other ≡ cond is_live one (set one number false) → length other ≡ length one
marked-size true one other number is = ap (λ (l : List Bool). length l) is
marked-size false one other number is = ap (λ (l : List Bool). length l) is ∙ length-set one number false

-- a survey with the same lists
pub surveyed-same : (rows : List Write) (count : ℕ) (one other : Survey) → AreSurveyed rows count one → other.live_rows ≡ one.live_rows
    → other.live_bits ≡ one.live_bits → AreSurveyed rows count other
surveyed-same rows count one other is numbers bits = record {
  live_rows = rw numbers is.live_rows;
  live_bits = bits ∙ is.live_bits;
}

module _ (rows : List Write) (number : ℕ) (is_live : Bool) (one other : Survey) (is : AreSurveyed rows number one) (within : number < length rows)
    (told : is_live_at (slice_get rows number) ≡ is_live)
    (numbers : other.live_rows.items ≡ one.live_rows.items ++ cond is_live (number ∷ []) [])
    (bits : other.live_bits ≡ cond is_live one.live_bits (set one.live_bits number false)) where
  abbrev front : List Bool
  front = map live (take number rows)

  abbrev rest : List Bool
  rest = replicate (length rows - (number + 1)) true

  whole : one.live_bits ≡ front ++ true ∷ rest
  whole =
      let more : length rows - number ≡ suc (length rows - (number + 1)) = omega (arith, within) in
      is.live_bits ∙ ap (λ n. front ++ replicate n true) more

  marked : set one.live_bits number false ≡ front ++ false ∷ rest
  marked =
      let size = length-map (take number rows) live in
      let few = length-take-le number rows (omega (arith, within)) in
      let place : number ≡ length front = omega (arith, size, few) in
      ap (λ (l : List Bool). set l number false) whole ∙ ap (λ n. set (front ++ true ∷ rest) n false) place
      ∙ set-append_seam front true rest false

  by_truth : (b : Bool) → cond b one.live_bits (set one.live_bits number false) ≡ front ++ b ∷ rest
  by_truth true = whole
  by_truth false = marked

  pub surveyed-next : AreSurveyed rows (number + 1) other
  surveyed-next = record {
    live_rows = numbers ∙ ap (λ (ns : List ℕ). ns ++ cond is_live (number ∷ []) []) is.live_rows
        ∙ ap (λ b. live_numbers rows number ++ cond b (number ∷ []) []) (sym told)
        ∙ sym (passing-next (λ k. is_live_at (slice_get rows k)) number);
    live_bits = bits ∙ by_truth is_live ∙ sym (append_assoc front (is_live ∷ []) rest)
        ∙ ap (λ (l : List Bool). l ++ rest) (sym (take-live rows number is_live within told));
  }

-- ---- a run of live rows
-- the bits once so many first rows are surveyed
abbrev bits_of : List Write → ℕ → List Bool
bits_of rows count = map live (take count rows) ++ replicate (length rows - count) true

bits-next : (rows : List Write) (number : ℕ) → number < length rows → is_live_at (slice_get rows number) ≡ true → bits_of rows number ≡ bits_of rows (number + 1)
bits-next rows number within told =
    let front = map live (take number rows) in
    let rest = replicate (length rows - (number + 1)) true in
    let more : length rows - number ≡ suc (length rows - (number + 1)) = omega (arith, within) in
    ap (λ n. front ++ replicate n true) more ∙ sym (append_assoc front (true ∷ []) rest)
    ∙ ap (λ (l : List Bool). l ++ rest) (sym (take-live rows number true within told))

bits-run : (rows : List Write) (number count : ℕ) → number + count ≤ length rows → ((k : ℕ) → k < count → is_live_at (slice_get rows (number + k)) ≡ true)
    → bits_of rows number ≡ bits_of rows (number + count)
bits-run rows number zero within told = ap (bits_of rows) (let none : number ≡ number + 0 = omega arith in none)
bits-run rows number (suc count) within told =
    bits-run rows number count (omega (arith, within)) (λ k low. told k (omega (arith, low)))
    ∙ bits-next rows (number + count) (omega (arith, within)) (told count (omega arith))
    ∙ ap (bits_of rows) (let next : number + count + 1 ≡ number + suc count = omega arith in next)

numbers-run : (rows : List Write) (number count : ℕ) → ((k : ℕ) → k < count → is_live_at (slice_get rows (number + k)) ≡ true)
    → live_numbers rows (number + count) ≡ live_numbers rows number ++ range_with_len number count
numbers-run rows number zero told =
    ap (live_numbers rows) (let none : number + 0 ≡ number = omega arith in none) ∙ sym (append-nil (live_numbers rows number))
numbers-run rows number (suc count) told =
    let next : number + suc count ≡ number + count + 1 = omega arith in
    let more : count + 1 ≡ suc count = omega arith in
    run-put (live_numbers rows number) (live_numbers rows (number + count)) (live_numbers rows (number + suc count)) number count (number + count)
    (numbers-run rows number count (λ k low. told k (omega (arith, low))))
    (ap (live_numbers rows) next ∙ passing-next (λ k. is_live_at (slice_get rows k)) (number + count)
    ∙ ap (λ b. live_numbers rows (number + count) ++ cond b ((number + count) ∷ []) []) (told count (omega arith)))
    refl
    ∙ ap (λ n. live_numbers rows number ++ range_with_len number n) more

-- their numbers are put, and no bit is changed
pub surveyed-run : (rows : List Write) (number count : ℕ) (one other : Survey) → AreSurveyed rows number one → number + count ≤ length rows
    → ((k : ℕ) → k < count → is_live_at (slice_get rows (number + k)) ≡ true) → other.live_rows.items ≡ one.live_rows.items ++ range_with_len number count
    → other.live_bits ≡ one.live_bits → AreSurveyed rows (number + count) other
surveyed-run rows number count one other is within told numbers bits = record {
  live_rows = numbers ∙ ap (λ (ns : List ℕ). ns ++ range_with_len number count) is.live_rows ∙ sym (numbers-run rows number count told);
  live_bits = bits ∙ is.live_bits ∙ bits-run rows number count within told;
}

-- all rows are surveyed
pub surveyed-all : (rows : List Write) (count : ℕ) (survey : Survey) → AreSurveyed rows count survey → count ≡ length rows
    → All (λ (row : Write). (survey.least_hash ≤ℤ row.hash) × (row.hash ≤ℤ survey.greatest_hash)) rows → IsSurvey rows survey
surveyed-all rows count survey is all hashes = record {
  live_rows = subst (λ (ns : List ℕ). AreLiveRows rows ns) (sym is.live_rows) (passing-live rows count all);
  live_bits = is.live_bits
      ∙ ap (λ n. map live (take n rows) ++ replicate (length rows - n) true) all
      ∙ ap (λ (rs : List Write). map live rs ++ replicate (length rows - length rows) true) (take-length rows)
      ∙ ap (λ n. map live rows ++ replicate n true) (let none : length rows - length rows ≡ 0 = omega arith in none)
      ∙ append-nil (map live rows);
  hashes = hashes;
}

-- the old rows' marks
pub kept-live : (bits : List Bool) (others : List Write) (at : ℕ) (o : Option Write) (b : Bool) → bits ≡ map live others
    → slice_get others at ≡ o → slice_get bits at ≡ Some b → is_live_at o ≡ b
kept-live bits others at o b are is told =
    told_live o b (ap (option_map live) (sym is) ∙ sym (slice_get-map live others at) ∙ ap (λ (l : List Bool). slice_get l at) (sym are) ∙ told)

-- ---- bounds of hashes
pub at_most : (a b : ℤ) → a ≡ b → a ≤ℤ b
at_most a b same = omega (arith, ints)

pub up_to : (a b c : ℤ) → a ≤ℤ b → b ≤ℤ c → a ≤ℤ c
up_to a b c le more = omega (arith, ints)

-- the bounds of a survey with the same ones hold its bounds, and those that hold these too
pub same-bounds : (one other : Survey) → other.least_hash ≡ one.least_hash → other.greatest_hash ≡ one.greatest_hash → HasBoundsOf one other
same-bounds one other least greatest =
    (at_most other.least_hash one.least_hash least, at_most one.greatest_hash other.greatest_hash (sym greatest))

pub bounds-on : (one two three : Survey) → HasBoundsOf one two → HasBoundsOf two three → HasBoundsOf one three
bounds-on one two three first second = (
  up_to three.least_hash two.least_hash one.least_hash second.0 first.0,
  up_to one.greatest_hash two.greatest_hash three.greatest_hash first.1 second.1,
)

-- within wider bounds too
pub wider : (one other : Survey) (rows : List Write) → HasBoundsOf one other → AllByRecursion (BoundsHashOf one) rows → AllByRecursion (BoundsHashOf other) rows
wider one other [] bounds all = tt
wider one other (row ∷ rows) bounds all = (
  (up_to other.least_hash one.least_hash row.hash bounds.0 all.0.0, up_to row.hash one.greatest_hash other.greatest_hash all.0.1 bounds.1),
  wider one other rows bounds all.1,
)

pub each-from_all : (P : Write → Type 0) (rows : List Write) → All P rows → AllByRecursion P rows
each-from_all P [] all = tt
each-from_all P (row ∷ rows) all = (all 0 row (omega arith), each-from_all P rows (λ k d within. all (suc k) d (omega (arith, within))))
