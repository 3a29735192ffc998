-- Digits are a numeral, with no sign before it.
use Rattle.std.proofs.Common.{◌≡◌, ◌<◌, ℕ, Bool, true, false, ◌&&◌, List, [], ◌∷◌, length, Some, None, cond, refl, sym, subst, arith, ◌^◌}
use Rattle.std.specs.Prelude.{nat_le, ◌==◌}
use Rattle.std.specs.Char.{is_ascii_digit, digit_value}
use Rattle.std.specs.List.{list_all}
use Rattle.std.specs.Str.Parse.{AllDigits, IsNumeral, digits_value, without_leading_plus}
use Rattle.std.proofs.lemmas.Bool.Decides.{nat_tests}

and_left : (a b : Bool) → a && b ≡ true → a ≡ true
and_left true b h = refl
and_left false b h = absurd (cc)

and_right : (a b : Bool) → a && b ≡ true → b ≡ true
and_right true b h = h
and_right false b h = absurd (cc)

digit : (c : ℕ) → is_ascii_digit c ≡ true → digit_value c < 10
digit c h = grind (arith, nat_tests)

no_plus : (c : ℕ) → is_ascii_digit c ≡ true → (c == 43) ≡ false
no_plus c h = grind (arith, nat_tests)

all_digits : (text : List ℕ) → list_all is_ascii_digit text ≡ true → AllDigits 10 text
all_digits [] h = tt
all_digits (c ∷ text) h = (digit c (and_left (is_ascii_digit c) (list_all is_ascii_digit text) h), all_digits text (and_right (is_ascii_digit c) (list_all is_ascii_digit text) h))

unsigned : (text : List ℕ) → list_all is_ascii_digit text ≡ true → without_leading_plus text ≡ text
unsigned [] h = refl
unsigned (c ∷ text) h = rw (no_plus c (and_left (is_ascii_digit c) (list_all is_ascii_digit text) h)) refl

-- digits that are no number below a bound have a greater one
pub not_below : (text : List ℕ) (bound : ℕ) → 0 < length text → list_all is_ascii_digit text ≡ true
    → (IsNumeral 10 (without_leading_plus text) × (digits_value 10 (without_leading_plus text) < bound) → ⊥)
    → digits_value 10 text < bound → ⊥
not_below text bound some digits h small =
    h (subst (λ (t : List ℕ). IsNumeral 10 t × (digits_value 10 t < bound)) (sym (unsigned text digits)) ((some, all_digits text digits), small))

-- what is chosen by a test that fails
pub none_chosen : (test : Bool) (n : ℕ) → (test ≡ true → ⊥) → None ≡ cond test (Some n) None
none_chosen true n h = absurd (h refl)
none_chosen false n h = refl

-- no number of more than 32 bits is at most one that has them
pub none_up_to : (text : List ℕ) (most : ℕ) → most < 2 ^ 32 → 0 < length text → list_all is_ascii_digit text ≡ true
    → (IsNumeral 10 (without_leading_plus text) × (digits_value 10 (without_leading_plus text) < 2 ^ 32) → ⊥)
    → None ≡ cond (nat_le (digits_value 10 text) most) (Some (digits_value 10 text)) None
none_up_to text most few some digits h =
    none_chosen (nat_le (digits_value 10 text) most) (digits_value 10 text)
    (λ less. not_below text (2 ^ 32) some digits h (grind (arith, nat_tests)))
