-- A text is read as the range that it stands for.
use Rattle.std.proofs.Common.{◌≡◌, ℕ, ◌<◌, ◌≤◌, ℤ, ◌≤ℤ◌, Bool, true, false, ◌&&◌, T, cond, List, [], ◌∷◌, ◌++◌, length, get_or, Option, Some, None, refl, sym, ap, ◌∙◌, subst, arith}
use Rattle.std.specs.Prelude.{◌↔◌, IsSomeAnd, int_le, nat_lt, nat_le}
use Rattle.std.specs.Char.{digit_value}
use Rattle.std.specs.List.{list_all, position_or_len, before_first, after_first}
use Rattle.std.specs.Option.{option_map}
use Rattle.std.specs.Str.Parse.{AllDigits}
use Rattle.std.proofs.lemmas.Bool.{eqb-true, ltb-true, ltb-false, lt-ltb, leb-true, le-leb, false≢true}
use Rattle.std.proofs.lemmas.List.{get_or-take, length-take}
use Rattle.std.proofs.lemmas.List.Sums.{split_at_first, passes_at_first, fails_before_first}
use Rattle.std.proofs.Math.ListN.{drop_of_length-le}
use Rattle.sc_hash.specs.Bounds.{bounds}
use Rattle.sc_hash.specs.Range.{IsBound, bound_of, ReadsAs}
use Rattle.sc_hash.specs.declared.range.Range.{Range}
use Rattle.sc_hash.proofs.CutLemmas.{Lacks}
use Rattle.sc_hash.proofs.RangeLemmas.{ReadsAs-no_dash, ReadsAs-cut, ReadsParts}
use Rattle.sc_admin.specs.Ranges.{is_bound, is_dash, range_between, range_of}

-- a function reads exactly the texts of ranges
abbrev pub Reads : List ℕ → Option Range → Type 0
Reads text r = (min max : ℤ) → IsSomeAnd r (λ range. (range.min ≡ min) × (range.max ≡ max)) ↔ ReadsAs text min max

all_true : (a b c : Bool) → a ≡ true → b ≡ true → c ≡ true → a && b && c ≡ true
all_true true true true p q s = refl
all_true true true false p q s = s
all_true true false c p q s = q
all_true false b c p q s = p

each_true : (a b c : Bool) → a && b && c ≡ true → (a ≡ true) × (b ≡ true) × (c ≡ true)
each_true true true true h = (refl, refl, refl)
each_true true true false h = cc
each_true true false c h = cc
each_true false b c h = cc

digits-all : (text : List ℕ) → AllDigits 16 text → list_all (λ byte. nat_lt (digit_value byte) 16) text ≡ true
digits-all [] h = refl
digits-all (byte ∷ text) h = rw (lt-ltb (digit_value byte) 16 h.0) (digits-all text h.1)

first_true : (a b : Bool) → a && b ≡ true → (a ≡ true) × (b ≡ true)
first_true true b h = (refl, h)
first_true false b h = cc

all-digits : (text : List ℕ) → list_all (λ byte. nat_lt (digit_value byte) 16) text ≡ true → AllDigits 16 text
all-digits [] h = tt
all-digits (byte ∷ text) h =
    let parts = first_true (nat_lt (digit_value byte) 16) (list_all (λ byte. nat_lt (digit_value byte) 16) text) h in
    (ltb-true (digit_value byte) 16 parts.0, all-digits text parts.1)

is_bound-true : (text : List ℕ) → IsBound text → is_bound text ≡ true
is_bound-true text h =
    all_true (nat_lt 0 (length text)) (nat_le (length text) 8) (list_all (λ byte. nat_lt (digit_value byte) 16) text)
    (lt-ltb 0 (length text) h.0.0) (le-leb (length text) 8 h.1) (digits-all text h.0.1)

IsBound-true : (text : List ℕ) → is_bound text ≡ true → IsBound text
IsBound-true text h =
    let parts = each_true (nat_lt 0 (length text)) (nat_le (length text) 8) (list_all (λ byte. nat_lt (digit_value byte) 16) text) h in
    ((ltb-true 0 (length text) parts.0, all-digits text parts.2), leb-true (length text) 8 parts.1)

is_true : (t : Bool) → T t → t ≡ true
is_true true holds = refl
is_true false holds = absurd holds

in_order-true : (a b : ℤ) → a ≤ℤ b → int_le a b ≡ true
in_order-true a b most = is_true (int_le a b) most.le

InOrder-true : (a b : ℤ) → int_le a b ≡ true → a ≤ℤ b
InOrder-true a b is = record { le = rw is tt }

-- what stands on both sides of the first dash is a range exactly where the text reads as one
range-cut : (text low high : List ℕ) (r : Option Range) → text ≡ low ++ 45 ∷ high → Lacks 45 low → Reads text r
    → option_map bounds r ≡ range_between low high
range-cut text low high r cut none read =
    by r read (is_bound low) (is_bound high) (int_le (bound_of low) (bound_of high)) refl refl refl where
      by : (r : Option Range) → Reads text r → (p q o : Bool) → is_bound low ≡ p → is_bound high ≡ q → int_le (bound_of low) (bound_of high) ≡ o
          → option_map bounds r ≡ cond (p && q && o) (Some (bound_of low, bound_of high)) None
      by None read true true true p q o = absurd ((read (bound_of low) (bound_of high)).1 (record {
        low = low;
        high = high;
        parts = cut;
        low_form = IsBound-true low p;
        high_form = IsBound-true high q;
        min_is = refl;
        max_is = refl;
        ordered = InOrder-true (bound_of low) (bound_of high) o;
      }))
      by None read true true false p q o = refl
      by None read true false c p q o = refl
      by None read false b c p q o = refl
      by (Some range) read b c d p q o =
          read_of range b c d p q o (ReadsAs-cut text low high range.min range.max cut none ((read range.min range.max).0 (refl, refl)))
        where
          read_of : (range : Range) (b c d : Bool) → is_bound low ≡ b → is_bound high ≡ c → int_le (bound_of low) (bound_of high) ≡ d → ReadsParts low high range.min range.max
              → Some (bounds range) ≡ cond (b && c && d) (Some (bound_of low, bound_of high)) None
          read_of range b c d p q o parts =
              let first : b ≡ true = sym p ∙ is_bound-true low parts.low_form in
              let second : c ≡ true = sym q ∙ is_bound-true high parts.high_form in
              let order = in_order-true (bound_of low) (bound_of high) (subst (λ x. x ≤ℤ bound_of high) parts.min_is (subst (λ x. range.min ≤ℤ x) parts.max_is parts.ordered)) in
              let third : d ≡ true = sym o ∙ order in
              rw (first, second, third) (ap (λ x. Some (x, range.max)) parts.min_is ∙ ap (λ x. Some (bound_of low, x)) parts.max_is)

-- with nothing after the dash there is no range
no_high : (low : List ℕ) → range_between low [] ≡ None
no_high low = by (is_bound low) where
  by : (t : Bool) → cond {A = Option (ℤ × ℤ)} (t && false && int_le (bound_of low) (bound_of [])) (Some (bound_of low, bound_of [])) None ≡ None
  by true = refl
  by false = refl

-- what stands before the first dash lacks one
lacks-before : (text : List ℕ) → Lacks 45 (before_first is_dash text)
lacks-before text i within dash =
    let place = position_or_len is_dash text in
    let below : i < place = omega (arith, length-take place text) in
    let same = get_or-take place text i 0 below in
    let other = fails_before_first is_dash text i 0 below in
    let here : is_dash (get_or text i 0) ≡ true = ap is_dash (sym same ∙ dash) in
    false≢true (sym other ∙ here)

-- a text whose first dash is past its end lacks one
lacks-all : (text : List ℕ) → length text ≤ position_or_len is_dash text → Lacks 45 text
lacks-all text past i within dash =
    let other = fails_before_first is_dash text i 0 (omega arith) in
    let here : is_dash (get_or text i 0) ≡ true = ap is_dash dash in
    false≢true (sym other ∙ here)

range-no_dash : (text : List ℕ) (r : Option Range) → length text ≤ position_or_len is_dash text → Reads text r
    → option_map bounds r ≡ range_of text
range-no_dash text (Some range) past read =
    absurd (ReadsAs-no_dash text range.min range.max (lacks-all text past) ((read range.min range.max).0 (refl, refl)))
range-no_dash text None past read =
    let nothing : after_first is_dash text ≡ [] = drop_of_length-le text (omega arith) in
    sym (ap (range_between (before_first is_dash text)) nothing ∙ no_high (before_first is_dash text))

range-dash : (text : List ℕ) (r : Option Range) → position_or_len is_dash text < length text → Reads text r
    → option_map bounds r ≡ range_of text
range-dash text r within read =
    let low = before_first is_dash text in
    let high = after_first is_dash text in
    let place = position_or_len is_dash text in
    let dash : get_or text place 0 ≡ 45 = eqb-true (get_or text place 0) 45 (passes_at_first is_dash text 0 within) in
    let cut : text ≡ low ++ 45 ∷ high = split_at_first is_dash text 0 within ∙ ap (λ byte. low ++ byte ∷ high) dash in
    range-cut text low high r cut (lacks-before text) read

-- what reads exactly the texts of ranges reads a text as the range that it stands for
pub read-range : (text : List ℕ) (r : Option Range) → Reads text r → option_map bounds r ≡ range_of text
read-range text r read = by (nat_lt (position_or_len is_dash text) (length text)) refl where
  by : (t : Bool) → nat_lt (position_or_len is_dash text) (length text) ≡ t → option_map bounds r ≡ range_of text
  by true less = range-dash text r (ltb-true (position_or_len is_dash text) (length text) less) read
  by false more = range-no_dash text r (ltb-false (position_or_len is_dash text) (length text) more) read
