-- Laws on ranges and on the texts that write them.
use Rattle.std.proofs.Common.{◌≡◌, ◌≢◌, ℕ, suc, zero, ◌+◌, ◌/◌, ◌%◌, ◌^◌, ◌<◌, ◌≤◌, ℤ, ◌≤ℤ◌, Bool, true, false, cond, eqb, List, [], ◌∷◌, ◌++◌, length, get_or, refl, sym, ◌∙◌, ap, arith, w32, to_z, of_z, lit≤, lit<, subst, pow-suc}
use Rattle.std.proofs.lemmas.Int.{ints, clamps, to_z-of_z}
use Rattle.std.proofs.lemmas.Fmt.{digits_is_IsNumeral}
use Rattle.std.specs.Int.{int_max}
use Rattle.std.specs.Int.RustNames.{FitsSigned}
use Rattle.std.specs.Fmt.{digits, digits_onto, digit_glyph}
use Rattle.std.specs.Char.{digit_value}
use Rattle.std.specs.Str.Parse.{AllDigits, IsNumeral, digits_value, without_leading_plus, ParsesUnsigned}
use Rattle.std.proofs.lemmas.Nat.{div_below}
use Rattle.std.proofs.lemmas.Bool.{eqb-false, false≢true}
use Rattle.std.proofs.lemmas.Int.Digits.{digits_value-lt}
use Rattle.std.proofs.lemmas.Str.Parse.{without_leading_plus_none}
use Rattle.std.proofs.Math.Nat.{le_trans, lt_of_lt_of_le, pow-le-pow_right}
use Rattle.sc_hash.specs.declared.range.Range.{Range}
use Rattle.std.specs.Result.{result_ok}
use Rattle.std.specs.Prelude.{Result, Ok, Err, Option, Some, None, IsSome, IfSome, IsSomeAnd, ◌↔◌}
use Rattle.sc_hash.proofs.CutLemmas.{Lacks, Lacks-rest, same_cut}
use Rattle.sc_hash.specs.Range.{Meets, IsBound, bound_of, IsRange, ReadsAs, range_text}

-- two ranges of which none ends before the other begins both have the greater of their first numbers
pub Meets-overlap : (min max other_min other_max : ℤ) → min ≤ℤ max → other_min ≤ℤ other_max → min ≤ℤ other_max → other_min ≤ℤ max → Meets min max other_min other_max
Meets-overlap a b c d p q r s = (int_max a c, (omega (arith, ints, clamps), omega (arith, ints, clamps)), (omega (arith, ints, clamps), omega (arith, ints, clamps)))

-- a number below 16 ^ m has at most m hexadecimal digits
length-digits_onto : (k m n : ℕ) (acc : List ℕ) → n < 16 ^ suc m → length (digits_onto k 16 false n acc) ≤ suc m + length acc
length-digits_onto zero m n acc h = omega arith
length-digits_onto (suc k) zero n acc h = by (eqb (n / 16) 0) refl where
  by : (t : Bool) → eqb (n / 16) 0 ≡ t → length (cond t (digit_glyph false (n % 16) ∷ acc) (digits_onto k 16 false (n / 16) (digit_glyph false (n % 16) ∷ acc))) ≤ 1 + length acc
  by true e = omega arith
  by false e = absurd (eqb-false _ _ e (omega arith))
length-digits_onto (suc k) (suc m) n acc h = by (length-digits_onto k m (n / 16) (digit_glyph false (n % 16) ∷ acc) below) (eqb (n / 16) 0) where
  below : n / 16 < 16 ^ suc m
  below = div_below n 16 (16 ^ suc m) (omega arith) (omega (arith, pow-suc 16 (suc m)))

  by : length (digits_onto k 16 false (n / 16) (digit_glyph false (n % 16) ∷ acc)) ≤ suc m + suc (length acc) → (t : Bool) → length (cond t (digit_glyph false (n % 16) ∷ acc) (digits_onto k 16 false (n / 16) (digit_glyph false (n % 16) ∷ acc))) ≤ suc (suc m) + length acc
  by rest true = omega arith
  by rest false = omega arith

length-digits_32 : (n : ℕ) → n < 2 ^ 32 → length (digits 16 false n) ≤ 8
unfolding digits
length-digits_32 n h = length-digits_onto 64 7 n [] h

of_z_32 : (z : ℤ) → FitsSigned w32 z → of_z w32 z < 2 ^ 32
of_z_32 z h = omega (arith, ints)

-- the hexadecimal digits of a number of 32 bits are a bound, and the number is their value
digits_read : (n : ℕ) → n < 2 ^ 32 → IsNumeral 16 (digits 16 false n) × (digits_value 16 (digits 16 false n) ≡ n)
digits_read n h = digits_is_IsNumeral 16 false (lit≤ tt) (lit≤ tt) n (le_trans h (lit≤ tt))

IsBound-digits : (n : ℕ) → n < 2 ^ 32 → IsBound (digits 16 false n)
IsBound-digits n h = ((digits_read n h).0, length-digits_32 n h)

bound_of-digits : (z : ℤ) → FitsSigned w32 z → bound_of (digits 16 false (of_z w32 z)) ≡ z
bound_of-digits z h = ap (to_z w32) (digits_read (of_z w32 z) (of_z_32 z h)).1 ∙ to_z-of_z w32 z h

-- the text of a range reads as that range
ReadsAs-range_text : (min max : ℤ) → IsRange min max → ReadsAs (range_text min max) min max
unfolding range_text
ReadsAs-range_text min max (p, q, h) = record {
  low = digits 16 false (of_z w32 min);
  high = digits 16 false (of_z w32 max);
  parts = refl;
  low_form = IsBound-digits _ (of_z_32 min p);
  high_form = IsBound-digits _ (of_z_32 max q);
  min_is = sym (bound_of-digits min p);
  max_is = sym (bound_of-digits max q);
  ordered = h;
}

-- what a reader that would also take a plus sign refuses is no bound
not_IsBound : (text : List ℕ) → get_or text 0 0 ≢ 43 → ¬ (IsNumeral 16 (without_leading_plus text) × (digits_value 16 (without_leading_plus text) < 2 ^ 32)) → ¬ (IsBound text)
not_IsBound text none h b =
    let Read : List ℕ → Type 0 = λ ds. IsNumeral 16 ds × (digits_value 16 ds < 2 ^ 32) in
    let small : digits_value 16 text < 2 ^ 32 = lt_of_lt_of_le (digits_value-lt 16 text b.0.1) (pow-le-pow_right (lit< tt) b.1) in
    h (subst Read (sym (without_leading_plus_none text none)) (b.0, small))

pub not_IsBound-refused : {E : Type 0} (text : List ℕ) (r : Result ℕ E) (bits : Option ℕ) → ParsesUnsigned 32 16 text r → bits ≡ result_ok r → bits ≡ None → get_or text 0 0 ≢ 43 → ¬ (IsBound text)
not_IsBound-refused text (Ok n) bits h e none plus = let apart : Some n ≡ None = sym e ∙ none in absurd (cc)
not_IsBound-refused text (Err k) bits h e none plus = not_IsBound text plus h

-- no hexadecimal digit is a dash
Lacks_dash-digits : (text : List ℕ) → AllDigits 16 text → Lacks 45 text
Lacks_dash-digits [] h i lt = absurd (omega arith)
Lacks_dash-digits (c ∷ text) h zero lt = λ e. let P : ℕ → Type 0 = λ d. digit_value d < 16 in absurd (omega (arith, subst P e h.0))
Lacks_dash-digits (c ∷ text) h (suc i) lt = Lacks_dash-digits text h.1 i (omega arith)

-- a text without a dash is no range
pub ReadsAs-no_dash : (text : List ℕ) (min max : ℤ) → Lacks 45 text → ¬ (ReadsAs text min max)
ReadsAs-no_dash text min max h r = absurd (no_dash_at r.low r.high (subst (Lacks 45) r.parts h)) where
  no_dash_at : (low high : List ℕ) → ¬ (Lacks 45 (low ++ 45 ∷ high))
  no_dash_at [] high k = k 0 (omega arith) refl
  no_dash_at (c ∷ low) high k = no_dash_at low high (Lacks-rest 45 c _ k)

-- what a text that is cut at its first dash reads as
pub record ReadsParts (low high : List ℕ) (min max : ℤ) : Type 0 where
  pub low_form : IsBound low
  pub high_form : IsBound high
  pub min_is : min ≡ bound_of low
  pub max_is : max ≡ bound_of high
  pub ordered : min ≤ℤ max

pub ReadsAs-cut : (text low high : List ℕ) (min max : ℤ) → text ≡ low ++ 45 ∷ high → Lacks 45 low → ReadsAs text min max → ReadsParts low high min max
ReadsAs-cut text low high min max cut none r =
    let same = same_cut 45 r.low r.high low high (Lacks_dash-digits r.low r.low_form.0.1) none (sym r.parts ∙ cut) in
    record {
      low_form = subst IsBound same.0 r.low_form;
      high_form = subst IsBound same.1 r.high_form;
      min_is = r.min_is ∙ ap bound_of same.0;
      max_is = r.max_is ∙ ap bound_of same.1;
      ordered = r.ordered;
    }

-- the range of the two bounds, where they are in order, is what the text reads as
pub ReadsAs-new : (text low high : List ℕ) (a b : ℤ) (r : Option Range) → text ≡ low ++ 45 ∷ high → Lacks 45 low → IsBound low × (a ≡ bound_of low) → IsBound high × (b ≡ bound_of high) → IsSome r ↔ (a ≤ℤ b) → IfSome r (λ range. (range.min ≡ a) × (range.max ≡ b)) → (min max : ℤ) → IsSomeAnd r (λ range. (range.min ≡ min) × (range.max ≡ max)) ↔ ReadsAs text min max
ReadsAs-new text low high a b None cut none p q o bounds min max = (λ s. absurd s, λ s. refused (ReadsAs-cut text low high min max cut none s)) where
  refused : ReadsParts low high min max → ⊥
  refused k = let order : a ≤ℤ b = subst (λ x. a ≤ℤ x) (k.max_is ∙ sym q.1) (subst (λ x. x ≤ℤ max) (k.min_is ∙ sym p.1) k.ordered) in false≢true (o.1 order)
ReadsAs-new text low high a b (Some range) cut none p q o bounds min max = (to, λ s. from (ReadsAs-cut text low high min max cut none s)) where
  to : (range.min ≡ min) × (range.max ≡ max) → ReadsAs text min max
  to s = let min_is = sym s.0 ∙ bounds.0 in let max_is = sym s.1 ∙ bounds.1 in record {
    low = low;
    high = high;
    parts = cut;
    low_form = p.0;
    high_form = q.0;
    min_is = min_is ∙ p.1;
    max_is = max_is ∙ q.1;
    ordered = subst (λ x. x ≤ℤ max) (sym min_is) (subst (λ x. a ≤ℤ x) (sym max_is) (o.0 refl));
  }

  from : ReadsParts low high min max → (range.min ≡ min) × (range.max ≡ max)
  from k = (bounds.0 ∙ p.1 ∙ sym k.min_is, bounds.1 ∙ q.1 ∙ sym k.max_is)

-- what reads exactly the texts of ranges reads the text of a range as that range
pub read_back : (text : List ℕ) (r : Option Range) → ((min max : ℤ) → IsSomeAnd r (λ range. (range.min ≡ min) × (range.max ≡ max)) ↔ ReadsAs text min max) → (min max : ℤ) → IsRange min max → text ≡ range_text min max → IsSomeAnd r (λ range. (range.min ≡ min) × (range.max ≡ max))
read_back text r read min max h e =
    let Reads : List ℕ → Type 0 = λ t. ReadsAs t min max in
    (read min max).1 (subst Reads (sym e) (ReadsAs-range_text min max h))
