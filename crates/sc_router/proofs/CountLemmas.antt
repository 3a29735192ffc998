-- Laws on the bit count that a part states.
use Rattle.std.proofs.Common.{◌≡◌, ◌≢◌, ℕ, ◌+◌, ◌-◌, ◌*◌, ◌<◌, ◌≤◌, Bool, true, false, cond, eqb, leb, List, [], ◌∷◌, length, get_or, refl, ap, arith}
use Rattle.std.specs.Prelude.{Option, Some, None, ◌&&◌, ◌||◌}
use Rattle.std.specs.Char.{is_ascii_digit, digit_value}
use Rattle.std.proofs.lemmas.Bool.Decides.{nat_tests}
use Rattle.sc_router.specs.Parts.{before_mark, after_mark, occurrences, digit_of, stated_count, count_in, key_part, bits_of}

and_false : (a : Bool) → a && false ≡ false
and_false true = refl
and_false false = refl

or_true : (a : Bool) → a || true ≡ true
or_true true = refl
or_true false = refl

-- a digit is at least `0`, at most `9`, and has the value that it is written for
digit_value-digit : (byte : ℕ) → is_ascii_digit byte ≡ true → (digit_value byte ≡ byte - 48) × (byte ≤ 57)
digit_value-digit byte h = (grind (arith, nat_tests), grind (arith, nat_tests))

-- a text that is no digit or two states no count
pub stated_count-empty : (text : List ℕ) → length text < 1 → stated_count text ≡ None
unfolding stated_count
stated_count-empty [] h = refl
stated_count-empty (a ∷ text) h = absurd (omega arith)

pub stated_count-long : (text : List ℕ) → 3 ≤ length text → stated_count text ≡ None
unfolding stated_count
stated_count-long text h =
    let long : leb (length text) 2 ≡ false = grind (arith, nat_tests) in
    rw (long, and_false) refl

-- one digit states itself
pub stated_count-one : (text : List ℕ) → length text ≡ 1 → stated_count text ≡ digit_of (get_or text 0 0)
unfolding stated_count
stated_count-one [] h = absurd (omega arith)
stated_count-one (a ∷ []) h = by (is_ascii_digit a) refl where
  by : (t : Bool) → is_ascii_digit a ≡ t → cond ((((t && true) && true) && true) && leb (0 * 10 + digit_value a) 32) (Some (0 * 10 + digit_value a)) None ≡ cond t (Some (a - 48)) None
  by true e = let v = digit_value-digit a e in let small : leb (0 * 10 + digit_value a) 32 ≡ true = grind (arith, nat_tests) in rw small (ap (λ n. Some n) (omega (arith, v.0)))
  by false e = refl
stated_count-one (a ∷ b ∷ text) h = absurd (omega arith)

-- two digits state their number, where it is at most 32
abbrev pub count_two : Option ℕ → Option ℕ → Option ℕ
count_two (Some tens) (Some ones) = cond (leb (10 * tens + ones) 32) (Some (10 * tens + ones)) None
count_two (Some tens) None = None
count_two None ones = None

pub stated_count-two : (text : List ℕ) → length text ≡ 2 → stated_count text ≡ count_two (digit_of (get_or text 0 0)) (digit_of (get_or text 1 0))
unfolding stated_count
stated_count-two [] h = absurd (omega arith)
stated_count-two (a ∷ []) h = absurd (omega arith)
stated_count-two (a ∷ b ∷ []) h = by (is_ascii_digit a) (is_ascii_digit b) refl refl where
  n : ℕ
  n = (0 * 10 + digit_value a) * 10 + digit_value b

  by : (t u : Bool) → is_ascii_digit a ≡ t → is_ascii_digit b ≡ u → cond ((((t && (u && true)) && true) && true) && leb ((0 * 10 + digit_value a) * 10 + digit_value b) 32) (Some ((0 * 10 + digit_value a) * 10 + digit_value b)) None ≡ count_two (cond t (Some (a - 48)) None) (cond u (Some (b - 48)) None)
  by true true e f =
      let v = digit_value-digit a e in
      let w = digit_value-digit b f in
      let same : (0 * 10 + digit_value a) * 10 + digit_value b ≡ 10 * (a - 48) + (b - 48) = omega (arith, v.0, w.0) in
      rw same refl
  by true false e f = refl
  by false u e f = refl
stated_count-two (a ∷ b ∷ c ∷ text) h = absurd (omega arith)

-- a part without `/`, or that begins with it, states no count; any other states what stands after the first
pub count_in-none : (part : List ℕ) → occurrences 47 part ≡ 0 → count_in part ≡ None
unfolding count_in
count_in-none part h = rw h refl

pub count_in-first : (part : List ℕ) → length (before_mark 47 part) ≡ 0 → count_in part ≡ None
unfolding count_in
count_in-first part h = rw (h, or_true) refl

pub count_in-found : (part : List ℕ) → 0 < occurrences 47 part → length (before_mark 47 part) ≢ 0 → count_in part ≡ stated_count (after_mark 47 part)
unfolding count_in
count_in-found part some longer =
    let one : eqb (occurrences 47 part) 0 ≡ false = grind (arith, nat_tests) in
    let two : eqb (length (before_mark 47 part)) 0 ≡ false = grind (arith, nat_tests) in
    rw (one, two) refl

-- the key and the count of a part by what it states
pub key_of-None : (part : List ℕ) → count_in part ≡ None → key_part part ≡ part
unfolding key_part
key_of-None part h = rw h refl

pub key_of-Some : (part : List ℕ) (n : ℕ) → count_in part ≡ Some n → key_part part ≡ before_mark 47 part
unfolding key_part
key_of-Some part n h = rw h refl

pub bits_of-None : (unstated : ℕ) (part : List ℕ) → count_in part ≡ None → bits_of unstated part ≡ unstated
unfolding bits_of
bits_of-None unstated part h = rw h refl

pub bits_of-Some : (unstated : ℕ) (part : List ℕ) (n : ℕ) → count_in part ≡ Some n → bits_of unstated part ≡ n
unfolding bits_of
bits_of-Some unstated part n h = rw h refl
