-- Keys that are lent, sorted and then left once each, are those that were found, in order.
use Rattle.std.proofs.Common.{◌≡◌, ◌∙◌, ◌+◌, ◌<◌, ℕ, Bool, true, false, cond, List, [], ◌∷◌, length, get_or, map, refl, sym, ap, ap₂, subst, arith, nat_cmp}
use Rattle.std.specs.Cmp.Lexicographic.{slice_cmp}
use Rattle.std.specs.List.{dedup, dedup_from}
use Rattle.std.specs.List.Sorted.{IsPermutation, IsSorted}
use Rattle.std.specs.Ordering.{is_lt}
use Rattle.std.specs.Str.{bytes_eq}
use Rattle.std.specs.declared.cmp.Ordering.{Ordering}
use Rattle.std.proofs.lemmas.List.{length-map, get_or-map}
use Rattle.std.proofs.lemmas.List.Sorted.{IsPermutation-map}
use Rattle.sc_schema.specs.Keys.{AreKeys}
use Rattle.sc_schema.proofs.KeyLemmas.{AreKeys-sorted}

map_cond : {A B : Type 0} (f : A → B) (b : Bool) (xs ys : List A) → map f (cond b xs ys) ≡ cond b (map f xs) (map f ys)
map_cond f true xs ys = refl
map_cond f false xs ys = refl

dedup_from-map : {A B : Type 0} (f : A → B) (same : B → B → Bool) (k : A) (xs : List A)
    → map f (dedup_from (λ a b. same (f a) (f b)) k xs) ≡ dedup_from same (f k) (map f xs)
dedup_from-map f same k [] = refl
dedup_from-map f same k (x ∷ xs) =
    map_cond f (same (f x) (f k)) _ _
    ∙ ap₂ (cond (same (f x) (f k))) (dedup_from-map f same k xs) (ap (λ ys. f k ∷ ys) (dedup_from-map f same x xs))

dedup-map : {A B : Type 0} (f : A → B) (same : B → B → Bool) (xs : List A) → map f (dedup (λ a b. same (f a) (f b)) xs) ≡ dedup same (map f xs)
dedup-map f same [] = refl
dedup-map f same (x ∷ xs) = dedup_from-map f same x xs

IsSorted-map : {A B : Type 0} (f : A → B) (cmp : B → B → Ordering) (xs : List A) → IsSorted (λ a b. cmp (f a) (f b)) xs → IsSorted cmp (map f xs)
IsSorted-map f cmp [] h = λ k d low below. absurd (omega (arith, below))
IsSorted-map f cmp (x ∷ xs) h = λ k d low below.
    let within : k + 1 < length (x ∷ xs) = omega (arith, below, length-map (x ∷ xs) f) in
    ap₂ (λ a b. is_lt (cmp a b)) (get_or-map f (x ∷ xs) (k + 1) x d within) (get_or-map f (x ∷ xs) k x d (omega (arith, within))) ∙ h k x low within

-- the texts of lent keys, which were sorted and then left once each, are those that were found, in order
pub AreKeys-lent : {A : Type 0} (text : A → List ℕ) (found : List (List ℕ)) (lent sorted kept : List A) → map text lent ≡ found → IsPermutation lent sorted
    → IsSorted (λ a b. slice_cmp nat_cmp (text a) (text b)) sorted → kept ≡ dedup (λ a b. bytes_eq (text a) (text b)) sorted → AreKeys found (map text kept)
AreKeys-lent text found lent sorted kept are moved order is =
    subst (AreKeys found) (sym (ap (map text) is ∙ dedup-map text bytes_eq sorted))
    (AreKeys-sorted found (map text sorted) (subst (λ (ws : List (List ℕ)). IsPermutation ws (map text sorted)) are (IsPermutation-map text lent sorted moved))
    (IsSorted-map text (slice_cmp nat_cmp) sorted order))

-- the text of a lent key is that at its place among all texts
pub text_at : {A : Type 0} (text : A → List ℕ) (keys : List A) (i : ℕ) (key : A) → i < length keys → key ≡ get_or keys i key
    → (i < length (map text keys)) × (text key ≡ get_or (map text keys) i (text key))
text_at text keys i key within is = (
  omega (arith, within, length-map keys text),
  ap text is ∙ sym (get_or-map text keys i key (text key) within),
)
