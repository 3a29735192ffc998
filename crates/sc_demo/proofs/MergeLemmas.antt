-- What is found at merged places: as much as at each, in order, and the same where the others have nothing.
use Rattle.std.proofs.Common.{◌≡◌, ◌≢◌, ◌∙◌, ◌⊎◌, inl, inr, ◌≤◌, ◌<◌, ◌+◌, ℕ, zero, suc, Bool, true, false, true≢false, cond, ltb, List, [], ◌∷◌, length, Option, Some, None, slice_get, refl, sym, ap, subst, arith}
use Rattle.std.specs.Prelude.{filter_map}
use Rattle.std.specs.List.{AllByRecursion, cons_option}
use Rattle.std.proofs.lemmas.Bool.Decides.{nat_tests}
use Rattle.std.proofs.lemmas.Option.{same_Some}
use Rattle.sc_lock.specs.Journal.{inserted, merged_places}
use Rattle.sc_seen.specs.Seen.{Seen}
use Rattle.sc_demo.specs.Together.{own_of_all}

-- how many an option has
abbrev pub ones : {B : Type 0} → Option B → ℕ
ones None = 0
ones (Some b) = 1

pub length_cons : {B : Type 0} (o : Option B) (xs : List B) → length (cons_option o xs) ≡ ones o + length xs
length_cons None xs = omega arith
length_cons (Some b) xs = omega arith

-- the sum of what each gives
abbrev pub total : {A : Type 0} → (A → ℕ) → List A → ℕ
total f [] = 0
total f (x ∷ xs) = f x + total f xs

-- what holds of each holds of each in a weaker form
pub all_weaker : {A : Type 0} (P Q : A → Type 0) → ((x : A) → P x → Q x) → (xs : List A) → AllByRecursion P xs → AllByRecursion Q xs
all_weaker P Q weaker [] all = tt
all_weaker P Q weaker (x ∷ xs) all = (weaker x all.0, all_weaker P Q weaker xs all.1)

-- each place is before those after it
abbrev pub Ascends : List ℕ → Type 0
Ascends [] = Unit {0}
Ascends (y ∷ ys) = AllByRecursion (λ z. y < z) ys × Ascends ys

not_before : (p z : ℕ) → p < z → ltb p z ≡ false → ⊥
not_before p z less is = grind (arith, nat_tests)

module _ {B : Type 0} (g : ℕ → Option B) where
  -- as many are found at both
  inserted_count : (xs : List ℕ) (p : ℕ) → length (filter_map g (inserted xs p)) ≡ length (filter_map g (p ∷ xs))
  inserted_count [] p = refl
  inserted_count (x ∷ xs) p = by (ltb p x) (inserted_count xs p) where
    by : (b : Bool) → length (filter_map g (inserted xs p)) ≡ length (filter_map g (p ∷ xs))
        → length (filter_map g (cond b (p ∷ x ∷ xs) (x ∷ inserted xs p))) ≡ length (filter_map g (p ∷ x ∷ xs))
    by true rest = refl
    by false rest =
        let one = length_cons (g x) (filter_map g (inserted xs p)) in
        let two = length_cons (g p) (filter_map g (x ∷ xs)) in
        let three = length_cons (g x) (filter_map g xs) in
        let four = length_cons (g p) (filter_map g xs) in
        omega (arith, one, two, three, four, rest)

  pub merged_count : (xs ys : List ℕ) → length (filter_map g (merged_places xs ys)) ≡ length (filter_map g xs) + length (filter_map g ys)
  merged_count xs [] = omega arith
  merged_count xs (y ∷ ys) =
      let first = inserted_count (merged_places xs ys) y in
      let one = length_cons (g y) (filter_map g (merged_places xs ys)) in
      let two = length_cons (g y) (filter_map g ys) in
      let rest = merged_count xs ys in
      omega (arith, first, one, two, rest)

  -- nothing is found at the place, or it comes after this one
  abbrev IsPast : ℕ → ℕ → Type 0
  IsPast p z = (g z ≡ None) ⊎ (p < z)

  inserted_first : (zs : List ℕ) (p : ℕ) → AllByRecursion (IsPast p) zs → filter_map g (inserted zs p) ≡ filter_map g (p ∷ zs)
  inserted_first [] p past = refl
  inserted_first (z ∷ zs) p past = by (ltb p z) refl past.0 (inserted_first zs p past.1) where
    by : (b : Bool) → ltb p z ≡ b → IsPast p z → filter_map g (inserted zs p) ≡ filter_map g (p ∷ zs)
        → filter_map g (cond b (p ∷ z ∷ zs) (z ∷ inserted zs p)) ≡ filter_map g (p ∷ z ∷ zs)
    by true is here rest = refl
    by false is (inl none) rest =
        ap (λ o. cons_option o (filter_map g (inserted zs p))) none ∙ rest
        ∙ ap (λ o. cons_option (g p) (cons_option o (filter_map g zs))) (sym none)
    by false is (inr less) rest = absurd (not_before p z less is)

  inserted_none : (zs : List ℕ) (p : ℕ) → g p ≡ None → filter_map g (inserted zs p) ≡ filter_map g zs
  inserted_none [] p none = ap (λ o. cons_option o []) none
  inserted_none (z ∷ zs) p none = by (ltb p z) (inserted_none zs p none) where
    by : (b : Bool) → filter_map g (inserted zs p) ≡ filter_map g zs
        → filter_map g (cond b (p ∷ z ∷ zs) (z ∷ inserted zs p)) ≡ filter_map g (z ∷ zs)
    by true rest = ap (λ o. cons_option o (filter_map g (z ∷ zs))) none
    by false rest = ap (cons_option (g z)) rest

  pub none_first : (x : ℕ) (xs : List ℕ) → filter_map g (x ∷ xs) ≡ [] → (g x ≡ None) × (filter_map g xs ≡ [])
  none_first x xs is = by (g x) refl is where
    by : (o : Option B) → g x ≡ o → cons_option o (filter_map g xs) ≡ [] → (g x ≡ None) × (filter_map g xs ≡ [])
    by None same none = (same, none)
    by (Some b) same none = absurd (cc)

  -- places at which nothing is found add nothing
  pub merged_none : (xs ys : List ℕ) → filter_map g ys ≡ [] → filter_map g (merged_places xs ys) ≡ filter_map g xs
  merged_none xs [] none = refl
  merged_none xs (y ∷ ys) none =
      let parts = none_first y ys none in
      inserted_none (merged_places xs ys) y parts.0 ∙ merged_none xs ys parts.1

  all_none : (xs : List ℕ) → filter_map g xs ≡ [] → AllByRecursion (λ x. g x ≡ None) xs
  all_none [] none = tt
  all_none (x ∷ xs) none = let parts = none_first x xs none in (parts.0, all_none xs parts.1)

  all_inserted : (P : ℕ → Type 0) (zs : List ℕ) (p : ℕ) → AllByRecursion P zs → P p → AllByRecursion P (inserted zs p)
  all_inserted P [] p all is = (is, tt)
  all_inserted P (z ∷ zs) p all is = by (ltb p z) (all_inserted P zs p all.1 is) where
    by : (b : Bool) → AllByRecursion P (inserted zs p) → AllByRecursion P (cond b (p ∷ z ∷ zs) (z ∷ inserted zs p))
    by true more = (is, all)
    by false more = (all.0, more)

  all_merged : (P : ℕ → Type 0) (xs ys : List ℕ) → AllByRecursion P xs → AllByRecursion P ys → AllByRecursion P (merged_places xs ys)
  all_merged P xs [] all more = all
  all_merged P xs (y ∷ ys) all more = all_inserted P (merged_places xs ys) y (all_merged P xs ys all more.1) more.0

  -- and where nothing is found at the others, what is found at places that ascend is found in their order
  pub merged_ascending : (xs ys : List ℕ) → filter_map g xs ≡ [] → Ascends ys → filter_map g (merged_places xs ys) ≡ filter_map g ys
  merged_ascending xs [] none ascend = none
  merged_ascending xs (y ∷ ys) none ascend =
      let past = all_merged (IsPast y) xs ys
      (all_weaker (λ x. g x ≡ None) (IsPast y) (λ x is. inl is) xs (all_none xs none))
      (all_weaker (λ z. y < z) (IsPast y) (λ z less. inr less) ys ascend.0) in
      inserted_first (merged_places xs ys) y past ∙ ap (cons_option (g y)) (merged_ascending xs ys none ascend.1)

  -- ---- of several
  pub count_of_all : (parts : List Seen) (lock : ℕ)
      → length (filter_map g (own_of_all parts lock)) ≡ total (λ (part : Seen). length (filter_map g (part.own lock))) parts
  count_of_all [] lock = refl
  count_of_all (part ∷ parts) lock =
      let both = merged_count (own_of_all parts lock) (part.own lock) in
      let rest = count_of_all parts lock in
      omega (arith, both, rest)

  pub none_of_all : (parts : List Seen) (lock : ℕ) → ((i : ℕ) (part : Seen) → slice_get parts i ≡ Some part → filter_map g (part.own lock) ≡ [])
      → filter_map g (own_of_all parts lock) ≡ []
  none_of_all [] lock none = refl
  none_of_all (part ∷ parts) lock none =
      merged_none (own_of_all parts lock) (part.own lock) (none 0 part refl)
      ∙ none_of_all parts lock (λ i one at. none (suc i) one at)

  -- what one of them alone has
  pub one_of_all : (parts : List Seen) (lock k : ℕ) (owner : Seen) → slice_get parts k ≡ Some owner → Ascends (owner.own lock)
      → ((i : ℕ) (part : Seen) → i ≢ k → slice_get parts i ≡ Some part → filter_map g (part.own lock) ≡ [])
      → filter_map g (own_of_all parts lock) ≡ filter_map g (owner.own lock)
  one_of_all [] lock k owner at ascend none = absurd (cc)
  one_of_all (part ∷ parts) lock zero owner at ascend none =
      let same : part ≡ owner = same_Some part owner at in
      merged_ascending (own_of_all parts lock) (part.own lock)
      (none_of_all parts lock (λ i one at_one. none (suc i) one (λ is. absurd (omega (arith, is))) at_one))
      (subst (λ (seen : Seen). Ascends (seen.own lock)) (sym same) ascend)
      ∙ ap (λ (seen : Seen). filter_map g (seen.own lock)) same
  one_of_all (part ∷ parts) lock (suc k) owner at ascend none =
      merged_none (own_of_all parts lock) (part.own lock) (none 0 part (λ is. absurd (omega (arith, is))) refl)
      ∙ one_of_all parts lock k owner at ascend (λ i one different at_one. none (suc i) one (λ same. different (omega (arith, same))) at_one)
