-- A list that is sorted by a key, stably: the keys are sorted, and a test of the key finds the same elements in the same order.
use Rattle.std.proofs.Common.{◌≡◌, ◌∙◌, ◌+◌, ◌<◌, Bool, true, false, not, ◌&&◌, cond, List, [], ◌∷◌, map, length, get_or, filter, refl, sym, ap, arith}
use Rattle.std.specs.Cmp.{IsTotalOrder}
use Rattle.std.specs.List.Sorted.{IsSorted, IsSortedByKey, IsStableByKey, ties}
use Rattle.std.specs.Ordering.{is_eq, is_lt, eq_by_cmp, ordering_reverse}
use Rattle.std.specs.declared.cmp.Ordering.{Ordering}
use Rattle.std.specs.declared.cmp.Ordering.TheVariants.{Less, Equal, Greater}
use Rattle.std.proofs.lemmas.List.{get_or-map, length-map}
use Rattle.std.proofs.lemmas.List.Elements.{filter_agree}

-- an element passes the test, or none is left
first_or_none : {X G : Type 0} (p : X → Bool) (xs : List X) → ((x : X) → p x ≡ true → G) → (filter p xs ≡ [] → G) → G
first_or_none p [] some none = none refl
first_or_none {X} {G} p (x ∷ xs) some none = by (p x) refl (first_or_none p xs some) where
  by : (b : Bool) → p x ≡ b → ((filter p xs ≡ [] → G) → G) → G
  by true is later = some x is
  by false is later = later (λ rest. none (ap (λ b. cond b (x ∷ filter p xs) (filter p xs)) is ∙ rest))

-- a test finds the same in two lists, where it does so as soon as an element passes it
filter-same : {X : Type 0} (p : X → Bool) (xs ys : List X) → ((x : X) → p x ≡ true → filter p ys ≡ filter p xs) → filter p ys ≡ filter p xs
filter-same p xs ys same = first_or_none p ys same (λ none. first_or_none p xs same (λ nothing. none ∙ sym nothing))

-- keys that tie are equal
is_eq-ties : (o : Ordering) → is_eq o ≡ (not (is_lt (ordering_reverse o)) && not (is_lt o))
is_eq-ties Less = refl
is_eq-ties Equal = refl
is_eq-ties Greater = refl

module _ {X K : Type 0} {order : K → K → Ordering} (o : IsTotalOrder order) (key : X → K) where
  -- elements of one key stand in the order in which they stood
  pub filter-stable : (xs ys : List X) → IsStableByKey key order xs ys → (k : K) (p : X → Bool)
      → ((x : X) → p x ≡ eq_by_cmp order (key x) k) → ((x : X) → p x ≡ true → key x ≡ k) → filter p ys ≡ filter p xs
  filter-stable xs ys stable k p test is_key = filter-same p xs ys same where
    same : (x : X) → p x ≡ true → filter p ys ≡ filter p xs
    same x passes = filter_agree p _ tied ys ∙ stable x ∙ sym (filter_agree p _ tied xs) where
      tied : (y : X) → p y ≡ ties (λ a b. is_lt (order (key a) (key b))) x y
      tied y =
          test y
          ∙ ap (λ at. is_eq (order (key y) at)) (sym (is_key x passes))
          ∙ is_eq-ties (order (key y) (key x))
          ∙ ap (λ r. not (is_lt r) && not (is_lt (order (key y) (key x)))) (sym (o.antisymm (key x) (key y)))

-- the keys are sorted
pub IsSorted-keys : {X K : Type 0} (order : K → K → Ordering) (key : X → K) (xs : List X) → IsSortedByKey key order xs → IsSorted order (map key xs)
IsSorted-keys order key [] sorted k d low high = absurd (omega (arith, high))
IsSorted-keys order key (x ∷ xs) sorted k d low high =
    let below : k + 1 < length (x ∷ xs) = omega (arith, high, length-map (x ∷ xs) key) in
    let this : k < length (x ∷ xs) = omega (arith, below) in
    ap (λ at. is_lt (order at (get_or (map key (x ∷ xs)) k d))) (get_or-map key (x ∷ xs) (k + 1) x d below)
    ∙ ap (λ at. is_lt (order (key (get_or (x ∷ xs) (k + 1) x)) at)) (get_or-map key (x ∷ xs) k x d this)
    ∙ sorted k x low below
