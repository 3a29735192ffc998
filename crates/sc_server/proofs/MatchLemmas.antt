-- Two lists whose elements belong together, place by place.
use Rattle.std.proofs.Common.{◌≡◌, ◌⊎◌, inl, inr, ◌≤◌, ◌<◌, ℕ, zero, suc, Bool, ◌||◌, List, [], ◌∷◌, ◌++◌, length, length-append, map, Some, None, slice_get, get_or, refl, ap, subst, ◌∙◌, arith}
use Rattle.std.specs.List.{All, list_any}
use Rattle.std.proofs.lemmas.List.Elements.{All-get_or}
use Rattle.std.proofs.lemmas.Option.{same_Some, slice_get_cases}
use Rattle.std.proofs.Math.Seq.{get_or-append_seam}

-- what stands at a place of a list
pub some_at : {A : Type 0} (xs : List A) (place : ℕ) → place < length xs → (x : A) × (slice_get xs place ≡ Some x)
some_at {A} xs place within = by ((slice_get_cases xs place).1) where
  by : ((x : A) × (place < length xs) × (slice_get xs place ≡ Some x) × (get_or xs place x ≡ x)) ⊎ ((length xs ≤ place) × (slice_get xs place ≡ None))
      → (x : A) × (slice_get xs place ≡ Some x)
  by (inl (x, inside, at, is)) = (x, at)
  by (inr (past, at)) = absurd (omega (arith, within, past))

-- what holds of each element holds of the one that stands between these
pub element_of : {A : Type 0} (Q : A → Type 0) (all before : List A) (x : A) (after : List A) → All Q all → all ≡ before ++ x ∷ after → Q x
element_of {A} Q all before x after each is =
    let long : length all ≡ length (before ++ x ∷ after) = ap length is in
    let within : length before < length all = omega (arith, long, length-append before (x ∷ after)) in
    subst Q (ap (λ (xs : List A). get_or xs (length before) x) is ∙ get_or-append_seam before x after x) (All-get_or Q all (length before) x within each)

module _ {A B : Type 0} where
  -- the elements at each place belong together
  pub record AreMatched (Belongs : ℕ → A → B → Type 0) (ones : List A) (others : List B) : Type 0 where
    pub count : length others ≡ length ones
    pub each : (place : ℕ) (one : A) (other : B) → slice_get ones place ≡ Some one → slice_get others place ≡ Some other → Belongs place one other

  one_more_matched : (Belongs : ℕ → A → B → Type 0) (x : A) (ones : List A) (y : B) (others : List B) → Belongs 0 x y
      → AreMatched (λ (place : ℕ). Belongs (suc place)) ones others → AreMatched Belongs (x ∷ ones) (y ∷ others)
  one_more_matched Belongs x ones y others belongs are = record { count = ap suc are.count; each = each } where
    each : (place : ℕ) (one : A) (other : B) → slice_get (x ∷ ones) place ≡ Some one → slice_get (y ∷ others) place ≡ Some other
        → Belongs place one other
    each zero one other at at_other =
        subst (λ (a : A). Belongs 0 a other) (same_Some x one at) (subst (Belongs 0 x) (same_Some y other at_other) belongs)
    each (suc place) one other at at_other = are.each place one other at at_other

  -- where one belongs to each element there is a list of them
  pub all_matched : (Belongs : ℕ → A → B → Type 0) (ones : List A)
      → ((place : ℕ) (one : A) → slice_get ones place ≡ Some one → (other : B) × Belongs place one other)
      → (others : List B) × AreMatched Belongs ones others
  all_matched Belongs [] each = ([], record { count = refl; each = λ place one other at at_other. absurd (cc) })
  all_matched Belongs (x ∷ ones) each =
      let first = each 0 x refl in
      let rest = all_matched (λ (place : ℕ). Belongs (suc place)) ones (λ place one at. each (suc place) one at) in
      (first.0 ∷ rest.0, one_more_matched Belongs x ones first.0 rest.0 first.1 rest.1)

  -- all but the first
  rest_matched : (Belongs : ℕ → A → B → Type 0) (x : A) (ones : List A) (y : B) (others : List B) → AreMatched Belongs (x ∷ ones) (y ∷ others)
      → AreMatched (λ (place : ℕ). Belongs (suc place)) ones others
  rest_matched Belongs x ones y others are = record {
    count = omega (arith, are.count);
    each = λ place one other at at_other. are.each (suc place) one other at at_other;
  }

  -- what is the same of those that belong together is the same of the lists
  pub same_map : {D : Type 0} (f : A → D) (h : B → D) (Belongs : ℕ → A → B → Type 0) (ones : List A) (others : List B)
      → AreMatched Belongs ones others → ((place : ℕ) (one : A) (other : B) → Belongs place one other → f one ≡ h other) → map f ones ≡ map h others
  same_map f h Belongs [] [] are same = refl
  same_map f h Belongs [] (y ∷ others) are same = absurd (let count = are.count in omega arith)
  same_map f h Belongs (x ∷ ones) [] are same = absurd (let count = are.count in omega arith)
  same_map {D} f h Belongs (x ∷ ones) (y ∷ others) are same =
      ap (λ (d : D). d ∷ map f ones) (same 0 x y (are.each 0 x y refl refl))
      ∙ ap (λ (rest : List D). h y ∷ rest)
      (same_map f h (λ (place : ℕ). Belongs (suc place)) ones others (rest_matched Belongs x ones y others are) (λ place. same (suc place)))

  pub same_any : (p : A → Bool) (q : B → Bool) (Belongs : ℕ → A → B → Type 0) (ones : List A) (others : List B)
      → AreMatched Belongs ones others → ((place : ℕ) (one : A) (other : B) → Belongs place one other → p one ≡ q other)
      → list_any p ones ≡ list_any q others
  same_any p q Belongs [] [] are same = refl
  same_any p q Belongs [] (y ∷ others) are same = absurd (let count = are.count in omega arith)
  same_any p q Belongs (x ∷ ones) [] are same = absurd (let count = are.count in omega arith)
  same_any p q Belongs (x ∷ ones) (y ∷ others) are same =
      ap (λ (b : Bool). b || list_any p ones) (same 0 x y (are.each 0 x y refl refl))
      ∙ ap (λ (b : Bool). q y || b)
      (same_any p q (λ (place : ℕ). Belongs (suc place)) ones others (rest_matched Belongs x ones y others are) (λ place. same (suc place)))
