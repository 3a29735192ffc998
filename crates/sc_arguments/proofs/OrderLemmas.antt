-- Options that are each given once have the same numbers in any order.
use Rattle.std.proofs.Common.{◌≡◌, ◌≤◌, ◌+◌, ℕ, suc, zero, Bool, true, false, not, ◌&&◌, List, [], ◌∷◌, Option, Some, None, cond, refl, sym, ap, ◌∙◌, subst, arith}
use Rattle.std.specs.Prelude.{is_some, option_map}
use Rattle.std.specs.List.{find, list_any, sum_by}
use Rattle.std.specs.List.Sorted.{IsPermutation}
use Rattle.std.specs.Str.{bytes_eq}
use Rattle.std.proofs.lemmas.List.Elements.{All-nil, All-cons, All-head, All-tail}
use Rattle.std.proofs.lemmas.List.Sums.{sum_by-cons}
use Rattle.std.proofs.lemmas.List.Sorted.{sum_by-IsPermutation, All-permutation}
use Rattle.std.proofs.lemmas.Slice.Eq.{bytes_eq-Decides}
use Rattle.sc_arguments.specs.Options.{Setting, is_number, number_written, number_given, option_value, are_options}
use Rattle.sc_arguments.specs.Laws.{IsOption, times, AreEachOnce, AreTakenOnce}

-- the sum of the numbers that it is given
abbrev total : List ℕ → List Setting → ℕ
total name given = sum_by (λ (setting : Setting). cond (bytes_eq setting.0 name) (number_written setting.1) 0) given

-- one for a test that holds
abbrev pub as_number : Bool → ℕ
as_number t = cond t 1 0

pub times_step : (name : List ℕ) (setting : Setting) (given : List Setting) → times name (setting ∷ given) ≡ cond (bytes_eq setting.0 name) 1 0 + times name given
times_step name setting given = sum_by-cons _ setting given

total_step : (name : List ℕ) (setting : Setting) (given : List Setting) → total name (setting ∷ given) ≡ cond (bytes_eq setting.0 name) (number_written setting.1) 0 + total name given
total_step name setting given = sum_by-cons _ setting given

pub value_absent : (name : List ℕ) (given : List Setting) → times name given ≡ 0 → option_value name given ≡ None
value_absent name [] h = refl
value_absent name (setting ∷ given) h = by (bytes_eq setting.0 name) (sym (times_step name setting given) ∙ h) (value_absent name given) where
  by : (t : Bool) → cond t 1 0 + times name given ≡ 0 → (times name given ≡ 0 → option_value name given ≡ None)
      → option_map (λ (s : Setting). s.1) (cond t (Some setting) (find (λ (s : Setting). bytes_eq s.0 name) given)) ≡ None
  by true e rest = absurd (omega (arith, e))
  by false e rest = rest (omega (arith, e))

never_given : (name : List ℕ) (given : List Setting) → is_some (option_value name given) ≡ false → times name given ≡ 0
never_given name [] h = refl
never_given name (setting ∷ given) h = times_step name setting given ∙ by (bytes_eq setting.0 name) h (never_given name given) where
  by : (t : Bool) → is_some (option_map (λ (s : Setting). s.1) (cond t (Some setting) (find (λ (s : Setting). bytes_eq s.0 name) given))) ≡ false
      → (is_some (option_value name given) ≡ false → times name given ≡ 0) → cond t 1 0 + times name given ≡ 0
  by true e rest = absurd (cc)
  by false e rest = let none = rest e in omega (arith, none)

no_total : (name : List ℕ) (given : List Setting) → times name given ≡ 0 → total name given ≡ 0
no_total name [] h = refl
no_total name (setting ∷ given) h = total_step name setting given ∙ by (bytes_eq setting.0 name) (sym (times_step name setting given) ∙ h) (no_total name given) where
  by : (t : Bool) → cond t 1 0 + times name given ≡ 0 → (times name given ≡ 0 → total name given ≡ 0) → cond t (number_written setting.1) 0 + total name given ≡ 0
  by true e rest = absurd (omega (arith, e))
  by false e rest = let none = rest (omega (arith, e)) in omega (arith, none)

-- an option that is given once has the sum for its number
number_once : (name : List ℕ) (given : List Setting) → times name given ≡ 1 → number_given name given ≡ Some (total name given)
number_once name [] h = absurd (omega (arith, h))
number_once name (setting ∷ given) h =
    by (bytes_eq setting.0 name) (sym (times_step name setting given) ∙ h) (no_total name given) (number_once name given) ∙ ap (λ (n : ℕ). Some n) (sym (total_step name setting given)) where
      by : (t : Bool) → cond t 1 0 + times name given ≡ 1 → (times name given ≡ 0 → total name given ≡ 0) → (times name given ≡ 1 → number_given name given ≡ Some (total name given))
          → option_map number_written (option_map (λ (s : Setting). s.1) (cond t (Some setting) (find (λ (s : Setting). bytes_eq s.0 name) given))) ≡ Some (cond t (number_written setting.1) 0 + total name given)
      by true e none one = let nothing = none (omega (arith, e)) in ap (λ (n : ℕ). Some n) (omega (arith, nothing))
      by false e none one = one (omega (arith, e)) ∙ ap (λ (n : ℕ). Some n) (omega arith)

all_four : (a b c d : Bool) → (a && b && not c && d) ≡ true → (a ≡ true) × (b ≡ true) × (c ≡ false) × (d ≡ true)
all_four true true false true h = (refl, refl, refl, refl)
all_four true true false false h = absurd (cc)
all_four true true true d h = absurd (cc)
all_four true false c d h = absurd (cc)
all_four false b c d h = absurd (cc)

four_all : (a b c d : Bool) → a ≡ true → b ≡ true → c ≡ false → d ≡ true → (a && b && not c && d) ≡ true
four_all a b c d ha hb hc hd = rw ha (rw hb (rw hc (rw hd refl)))

pub each_once : (names : List (List ℕ)) (given : List Setting) → are_options names given ≡ true → AreEachOnce names given
each_once names [] h = record { good = All-nil (IsOption names); once = λ name. omega arith }
each_once names ((name, value) ∷ given) h =
    let parts = all_four (list_any (bytes_eq name) names) (is_number value) (is_some (option_value name given)) (are_options names given) h in
    let rest = each_once names given parts.3 in
    record {
      good = All-cons (IsOption names) (name, value) given (parts.0, parts.1) rest.good;
      once = λ other. by other (bytes_eq name other) refl (never_given name given parts.2) (rest.once other) (times_step other (name, value) given);
    } where
      by : (other : List ℕ) (t : Bool) → bytes_eq name other ≡ t → times name given ≡ 0 → times other given ≤ 1
          → times other ((name, value) ∷ given) ≡ cond (bytes_eq name other) 1 0 + times other given → times other ((name, value) ∷ given) ≤ 1
      by other true e none few step =
          let same : name ≡ other = (bytes_eq-Decides name other).0 e in
          let nothing : times other given ≡ 0 = subst (λ (n : List ℕ). times n given ≡ 0) same none in
          let one : as_number (bytes_eq name other) ≡ 1 = ap as_number e in
          omega (arith, nothing, step, one)
      by other false e none few step =
          let zeroth : as_number (bytes_eq name other) ≡ 0 = ap as_number e in
          omega (arith, few, step, zeroth)

are_good : (names : List (List ℕ)) (given : List Setting) → AreEachOnce names given → are_options names given ≡ true
are_good names [] each = refl
are_good names ((name, value) ∷ given) each =
    let good = All-head (IsOption names) (name, value) given each.good in
    let one : as_number (bytes_eq name name) ≡ 1 = ap as_number ((bytes_eq-Decides name name).1 refl) in
    let step = times_step name (name, value) given in
    let few = each.once name in
    let none : times name given ≡ 0 = omega (arith, one, step, few) in
    let rest : AreEachOnce names given = record {
      good = All-tail (IsOption names) (name, value) given each.good;
      once = λ other.
          let more = times_step other (name, value) given in
          let most = each.once other in
          omega (arith, more, most);
    } in
    four_all (list_any (bytes_eq name) names) (is_number value) (is_some (option_value name given)) (are_options names given)
    good.0 good.1 (ap (λ (o : Option (List ℕ)). is_some o) (value_absent name given none)) (are_good names given rest)

pub taken_once : AreTakenOnce
taken_once names given = (each_once names given, are_good names given)

in_another_order : (names : List (List ℕ)) (given other : List Setting) → IsPermutation given other → AreEachOnce names given → AreEachOnce names other
in_another_order names given other order each = record {
  good = All-permutation (IsOption names) given other order each.good;
  once = λ name.
      let same = sum_by-IsPermutation (λ (setting : Setting). cond (bytes_eq setting.0 name) 1 0) given other order in
      let few = each.once name in
      omega (arith, same, few);
}

pub same_options : (names : List (List ℕ)) (given other : List Setting) → IsPermutation given other → are_options names given ≡ true → are_options names other ≡ true
same_options names given other order h = are_good names other (in_another_order names given other order (each_once names given h))

-- each option of good options has the same number in another order
pub same_number : (names : List (List ℕ)) (given other : List Setting) → IsPermutation given other → AreEachOnce names given → (name : List ℕ) → number_given name given ≡ number_given name other
same_number names given other order each name =
    by (times name given) refl (each.once name)
    (sum_by-IsPermutation (λ (setting : Setting). cond (bytes_eq setting.0 name) 1 0) given other order)
    (sum_by-IsPermutation (λ (setting : Setting). cond (bytes_eq setting.0 name) (number_written setting.1) 0) given other order) where
      by : (n : ℕ) → times name given ≡ n → n ≤ 1 → times name other ≡ times name given → total name other ≡ total name given → number_given name given ≡ number_given name other
      by zero e few same sums =
          ap (λ (o : Option (List ℕ)). option_map number_written o) (value_absent name given e) ∙ sym (ap (λ (o : Option (List ℕ)). option_map number_written o) (value_absent name other (same ∙ e)))
      by (suc zero) e few same sums = number_once name given e ∙ (ap (λ (n : ℕ). Some n) (sym sums) ∙ sym (number_once name other (same ∙ e)))
      by (suc (suc n)) e few same sums = absurd (omega (arith, few))
