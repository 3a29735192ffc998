-- Rows from one place up to another, and their new numbers.
use Rattle.std.proofs.Common.{◌≡◌, ℕ, suc, ◌+◌, ◌-◌, ◌≤◌, List, [], ◌∷◌, ◌++◌, length, take, drop, Option, None, Some, sym, ap, ◌∙◌, arith}
use Rattle.std.proofs.Math.Seq.{take-add}
use Rattle.std.proofs.lemmas.List.{length-append, length-drop, length-take-le, drop-drop, drop-take, take-take}
use Rattle.std.proofs.lemmas.List.Elements.{filter_map-append}
use Rattle.std.specs.List.{cons_option, slice_range}
use Rattle.sc_rows.specs.Moving.{new_number, new_numbers, AreKept}

-- ---- rows from one place up to another
-- how many rows lie between two places
pub length-range : (rows : List ℕ) (a b : ℕ) → a ≤ b → b ≤ length rows → length (slice_range rows a b) + a ≡ b
length-range rows a b le within =
    let enough : b - a ≤ length (drop a rows) = rw (length-drop a rows) (omega arith) in
    let long : length (slice_range rows a b) ≡ b - a = length-take-le (b - a) (drop a rows) enough in
    omega (arith, long, le)

-- those up to a place between, and those from it on
pub range-join : (xs : List ℕ) (a b c : ℕ) → a ≤ b → b ≤ c → slice_range xs a c ≡ slice_range xs a b ++ slice_range xs b c
range-join xs a b c first later =
    let sum : c - a ≡ (b - a) + (c - b) = omega arith in
    let place : a + (b - a) ≡ b = omega arith in
    ap (λ (n : ℕ). take n (drop a xs)) sum
    ∙ take-add (b - a) (c - b) (drop a xs)
    ∙ ap (λ (ys : List ℕ). slice_range xs a b ++ take (c - b) ys) (drop-drop (b - a) a xs ∙ ap (λ (n : ℕ). drop n xs) place)

-- those of the first rows are those of all rows
pub range-take : (xs : List ℕ) (last a b : ℕ) → a ≤ b → b ≤ last → slice_range (take last xs) a b ≡ slice_range xs a b
range-take xs last a b rises within =
    let sum : a + (last - a) ≡ last = omega arith in
    ap (λ (n : ℕ). take (b - a) (drop a (take n xs))) (sym sum)
    ∙ ap (take (b - a)) (drop-take a (last - a) xs)
    ∙ take-take (b - a) (last - a) (drop a xs) (omega arith)

pub numbers-join : (moved : List (Option ℕ)) (rows : List ℕ) (a b c : ℕ) → a ≤ b → b ≤ c
    → new_numbers moved (slice_range rows a c) ≡ new_numbers moved (slice_range rows a b) ++ new_numbers moved (slice_range rows b c)
numbers-join moved rows a b c first later =
    ap (new_numbers moved) (range-join rows a b c first later) ∙ filter_map-append (new_number moved) (slice_range rows a b) (slice_range rows b c)

-- ---- rows that have new numbers
-- there are no more numbers than rows
numbers-count : (moved : List (Option ℕ)) (rows : List ℕ) → length (new_numbers moved rows) ≤ length rows
numbers-count moved [] = omega arith
numbers-count moved (r ∷ rs) =
    let later = numbers-count moved rs in
    elim (new_number moved r) as (λ (number : Option ℕ). length (cons_option number (new_numbers moved rs)) ≤ suc (length rs)) [
      | None ↦ omega (arith, later)
      | Some n ↦ omega (arith, later)
    ]

-- where as many numbers as rows were put at the end, each row has one
pub kept-counted : (moved : List (Option ℕ)) (rows old new : List ℕ) (n : ℕ) → n ≤ length rows → new ≡ old ++ new_numbers moved (take n rows) → length new ≡ length old + n → AreKept moved (take n rows)
kept-counted moved rows old new n within longer more =
    let long = length-take-le n rows within in
    omega (arith, long, more, ap length longer, length-append old (new_numbers moved (take n rows)))

-- rows that each have a number, from a later place on
pub kept-from : (moved : List (Option ℕ)) (rows : List ℕ) (a b c : ℕ) → a ≤ b → b ≤ c → AreKept moved (slice_range rows a c) → AreKept moved (slice_range rows b c)
kept-from moved rows a b c first later kept =
    let numbers = ap length (numbers-join moved rows a b c first later) ∙ length-append (new_numbers moved (slice_range rows a b)) (new_numbers moved (slice_range rows b c)) in
    let all = ap length (range-join rows a b c first later) ∙ length-append (slice_range rows a b) (slice_range rows b c) in
    let low = numbers-count moved (slice_range rows a b) in
    let high = numbers-count moved (slice_range rows b c) in
    omega (arith, kept, numbers, all, low, high)
