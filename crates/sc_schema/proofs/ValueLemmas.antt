-- What a decimal text writes, and the values that follow those that were read.
use Rattle.std.proofs.Common.{◌≡◌, ◌≢◌, ℕ, ℤ, pos, negsuc, Bool, true, false, ◌&&◌, cond, List, [], ◌∷◌, ◌++◌, length, get_or, drop, Option, Some, None, option_map, Result, Ok, Err, refl, sym, ap, subst, append_assoc, arith}
use Rattle.std.specs.Bool.{nat_lt}
use Rattle.std.specs.Result.{result_ok, OkIff}
use Rattle.std.specs.Str.{all_ascii_digits}
use Rattle.std.specs.Str.Parse.{ParsesSigned, IsNumeral, starts_with_minus, without_leading_sign, digits_value, signed_digits_value}
use Rattle.std.specs.Int.RustNames.{FitsSigned}
use Rattle.std.proofs.lemmas.Bool.Decides.{nat_tests}
use Rattle.std.proofs.lemmas.Int.{ints}
use Rattle.std.proofs.lemmas.Str.Parse.{IsNumeralModel, numerals_by_value, tells_all_ascii_digits, without_leading_plus_none}
use Rattle.sc_values.specs.declared.value.Kind.{Kind}
use Rattle.sc_values.specs.declared.value.Value.{Value}
use Rattle.sc_record.specs.Orders.{is_long}
use Rattle.sc_schema.specs.Values.{number_text, without_minus, value_of, values_in}
use Rattle.sc_schema.specs.declared.raw.RawOne.{RawOne}
use mir.Syntax.{w64}

digits_are : IsNumeralModel (λ ds. all_ascii_digits ds ≡ true) (digits_value 10)
digits_are = numerals_by_value _ tells_all_ascii_digits

-- what a test decides, as a choice
chosen : {E : Type 0} (b : Bool) (P : Type 0) (v : ℤ) (r : Result ℤ E) → (P → b ≡ true) → (b ≡ true → P) → OkIff r P v
    → result_ok r ≡ cond b (Some v) None
chosen true P v (Ok x) to from (p, same) = ap Some same
chosen false P v (Ok x) to from (p, same) = let h = to p in cc
chosen true P v (Err e) to from never = absurd (never (from refl))
chosen false P v (Err e) to from never = refl

-- the numbers of 64 bits
is_long-fits : (v : ℤ) → FitsSigned w64 v → is_long v ≡ true
is_long-fits (pos n) h = grind (arith, ints, nat_tests)
is_long-fits (negsuc n) h = grind (arith, ints, nat_tests)

fits-is_long : (v : ℤ) → is_long v ≡ true → FitsSigned w64 v
fits-is_long (pos n) h = grind (arith, ints, nat_tests)
fits-is_long (negsuc n) h = grind (arith, ints, nat_tests)

-- a decimal text and a number of 64 bits, as tests
tested : (ds : List ℕ) (v : ℤ) → IsNumeral 10 ds × FitsSigned w64 v
    → (all_ascii_digits ds && nat_lt 0 (length ds)) && is_long v ≡ true
tested ds v ((some, digits), fits) =
    let a : nat_lt 0 (length ds) ≡ true = grind (arith, nat_tests) in
    rw (digits_are.from ds digits, a, is_long-fits v fits) refl

split : (a b c : Bool) → (a && b) && c ≡ true → (a ≡ true) × (b ≡ true) × (c ≡ true)
split true true true h = (refl, refl, refl)
split true true false h = cc
split true false c h = cc
split false b c h = cc

meant : (ds : List ℕ) (v : ℤ) → (all_ascii_digits ds && nat_lt 0 (length ds)) && is_long v ≡ true
    → IsNumeral 10 ds × FitsSigned w64 v
meant ds v h =
    let (digits, some, long) = split _ _ _ h in
    ((grind (arith, nat_tests), digits_are.to ds digits), fits-is_long v long)

-- without a plus sign, only a minus sign is left out
same_digits : (text : List ℕ) → get_or text 0 0 ≢ 43 → without_leading_sign text ≡ without_minus text
same_digits text plus = ap (cond (starts_with_minus text) (drop 1 text)) (without_leading_plus_none text plus)

-- what is read of a text that begins with no plus sign
pub number_text-parsed : {E : Type 0} (text : List ℕ) (r : Result ℤ E) → get_or text 0 0 ≢ 43
    → ParsesSigned w64 10 text r → result_ok r ≡ number_text text
number_text-parsed text r plus read =
    let e = same_digits text plus in
    let v = signed_digits_value 10 text in
    let Numeral : List ℕ → Type 0 = λ ds. IsNumeral 10 ds × FitsSigned w64 (signed_digits_value 10 text) in
    chosen _ _ v r (λ p. tested (without_minus text) v (subst Numeral e p))
    (λ h. subst Numeral (sym e) (meant (without_minus text) v h)) read

-- a text that begins with a plus sign is no number
pub plus-no_number : (text : List ℕ) → get_or text 0 0 ≡ 43 → None ≡ number_text text
plus-no_number [] h = absurd (omega arith)
plus-no_number (c ∷ cs) h = let P : ℕ → Type 0 = λ n. None ≡ number_text (n ∷ cs) in subst P (sym h) refl

-- a list with one value more
longer : (before : List Value) (value : Value) (rest : Option (List Value))
    → option_map (λ more. (before ++ value ∷ []) ++ more) rest
    ≡ option_map (λ more. before ++ more) (option_map (λ more. value ∷ more) rest)
longer before value None = refl
longer before value (Some more) = ap Some (append_assoc before (value ∷ []) more)

-- one value more after those that were read
pub values_in-more : (kind : Kind) (before : List Value) (one : RawOne) (value : Value) (list : List RawOne)
    → value_of kind one ≡ Some value
    → option_map (λ more. (before ++ value ∷ []) ++ more) (values_in kind list)
    ≡ option_map (λ more. before ++ more) (values_in kind (one ∷ list))
values_in-more kind before one value list h = rw h (longer before value (values_in kind list))
