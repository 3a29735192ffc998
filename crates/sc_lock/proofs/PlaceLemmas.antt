-- Lists of places: what stands in them, and that they stay in order.
use Rattle.std.proofs.Common.{◌≡◌, ◌≢◌, ◌⊎◌, ℕ, zero, suc, ◌+◌, ◌<◌, ◌≤◌, List, [], ◌∷◌, ◌++◌, length, get_or, Bool, true, false, refl, subst, ⊎_elim, inl, inr, arith}
use Rattle.std.proofs.lemmas.Bool.{ltb-true, ltb-false}
use Rattle.std.proofs.lemmas.List.Elements.{All-nil, All-cons, All-head, All-tail, All-push, All-contains, All-weaker, Contains-get_or, Contains-push_cases}
use Rattle.std.proofs.lemmas.List.Kept.{AllPairs-cons, AllPairs-from_increasing}
use Rattle.std.specs.Prelude.{ltb, cond}
use Rattle.std.specs.List.{All, Contains}
use Rattle.std.specs.List.Sorted.{IsStrictlyIncreasing}
use Rattle.std.proofs.Math.Arith.{lt_of_le-ne}
use Rattle.sc_lock.specs.Journal.{AreDisjoint, ArePlacesIn, places_after, merged_places, inserted}

-- nothing stands in an empty list
pub Contains-none : {A : Type 0} (a : A) → Contains [] a → ⊥
Contains-none a h = let within = h.1 in omega arith

Contains-first : (x : ℕ) (xs : List ℕ) → Contains (x ∷ xs) x
Contains-first x xs = (0, omega arith, refl)

Contains-later : (x p : ℕ) (xs : List ℕ) → Contains xs p → Contains (x ∷ xs) p
Contains-later x p xs h = let within = h.1 in (suc h.0, omega arith, h.2)

Contains-cases-at : (x p : ℕ) (xs : List ℕ) (k : ℕ) → k < length (x ∷ xs) → get_or (x ∷ xs) k p ≡ p
    → (x ≡ p) ⊎ Contains xs p
Contains-cases-at x p xs zero within e = inl e
Contains-cases-at x p xs (suc k) within e = inr (k, omega arith, e)

-- a place in a list is its first or stands in the rest
Contains-cases : (x p : ℕ) (xs : List ℕ) → Contains (x ∷ xs) p → (x ≡ p) ⊎ Contains xs p
Contains-cases x p xs h = Contains-cases-at x p xs h.0 h.1 h.2

-- what holds of each place that stands in a list holds of all
All-from_contains : (P : ℕ → Type 0) (xs : List ℕ) → ((p : ℕ) → Contains xs p → P p) → All P xs
All-from_contains P xs h k d within = h (get_or xs k d) (Contains-get_or xs k d within)

Contains-inserted-if : (b : Bool) (x p q : ℕ) (xs : List ℕ) → (Contains (inserted xs p) q → Contains xs q ⊎ (p ≡ q))
    → Contains (cond b (p ∷ x ∷ xs) (x ∷ inserted xs p)) q → Contains (x ∷ xs) q ⊎ (p ≡ q)
Contains-inserted-if true x p q xs rec h = ⊎_elim inr inl (Contains-cases p q (x ∷ xs) h)
Contains-inserted-if false x p q xs rec h =
    ⊎_elim (λ e. inl (0, omega arith, e)) (λ a. ⊎_elim (λ b. inl (Contains-later x q xs b)) inr (rec a))
    (Contains-cases x q (inserted xs p) h)

Contains-inserted : (xs : List ℕ) (p q : ℕ) → Contains (inserted xs p) q → Contains xs q ⊎ (p ≡ q)
Contains-inserted [] p q h = ⊎_elim inr inl (Contains-cases p q [] h)
Contains-inserted (x ∷ xs) p q h = Contains-inserted-if (ltb p x) x p q xs (Contains-inserted xs p q) h

-- a place of two merged lists is in one of them
pub Contains-merged : (xs ys : List ℕ) (q : ℕ) → Contains (merged_places xs ys) q → Contains xs q ⊎ Contains ys q
Contains-merged xs [] q h = inl h
Contains-merged xs (y ∷ ys) q h =
    ⊎_elim (λ a. ⊎_elim inl (λ b. inr (Contains-later y q ys b)) (Contains-merged xs ys q a))
    (λ e. inr (0, omega arith, e)) (Contains-inserted (merged_places xs ys) y q h)

IsStrictlyIncreasing-none : IsStrictlyIncreasing []
IsStrictlyIncreasing-none k within = absurd (omega arith)

IsStrictlyIncreasing-one : (x : ℕ) → IsStrictlyIncreasing (x ∷ [])
IsStrictlyIncreasing-one x k within = absurd (omega arith)

IsStrictlyIncreasing-cons : (x : ℕ) (xs : List ℕ) → IsStrictlyIncreasing xs → All (λ p. x < p) xs
    → IsStrictlyIncreasing (x ∷ xs)
IsStrictlyIncreasing-cons x xs rest above k within =
    AllPairs-cons (λ p q. p < q) x xs above (AllPairs-from_increasing xs rest) k (k + 1) 0 (omega arith) within

IsStrictlyIncreasing-rest : (x : ℕ) (xs : List ℕ) → IsStrictlyIncreasing (x ∷ xs) → IsStrictlyIncreasing xs
IsStrictlyIncreasing-rest x xs all k within =
    AllPairs-from_increasing (x ∷ xs) all (suc k) (suc (k + 1)) 0 (omega arith) (omega arith)

IsStrictlyIncreasing-above : (x : ℕ) (xs : List ℕ) → IsStrictlyIncreasing (x ∷ xs) → All (λ p. x < p) xs
IsStrictlyIncreasing-above x xs all k d within =
    AllPairs-from_increasing (x ∷ xs) all zero (suc k) d (omega arith) (omega arith)

IsStrictlyIncreasing-push : (xs : List ℕ) (p : ℕ) → IsStrictlyIncreasing xs → All (λ q. q < p) xs
    → IsStrictlyIncreasing (xs ++ p ∷ [])
IsStrictlyIncreasing-push [] p up under = IsStrictlyIncreasing-one p
IsStrictlyIncreasing-push (x ∷ xs) p up under =
    IsStrictlyIncreasing-cons x (xs ++ p ∷ [])
    (IsStrictlyIncreasing-push xs p (IsStrictlyIncreasing-rest x xs up) (All-tail (λ q. q < p) x xs under))
    (All-push (λ q. x < q) xs p (IsStrictlyIncreasing-above x xs up) (All-head (λ q. q < p) x xs under))

All-inserted : (P : ℕ → Type 0) (xs : List ℕ) (p : ℕ) → All P xs → P p → All P (inserted xs p)
All-inserted P xs p all at = All-from_contains P (inserted xs p) (λ q h.
    ⊎_elim (λ a. All-contains P xs q all a) (λ e. subst P e at) (Contains-inserted xs p q h))

IsStrictlyIncreasing-inserted-if : (b : Bool) (x p : ℕ) (xs : List ℕ) → ltb p x ≡ b → x ≢ p
    → IsStrictlyIncreasing (x ∷ xs) → IsStrictlyIncreasing (inserted xs p)
    → IsStrictlyIncreasing (cond b (p ∷ x ∷ xs) (x ∷ inserted xs p))
IsStrictlyIncreasing-inserted-if true x p xs is new up rec = let below = ltb-true p x is in
    IsStrictlyIncreasing-cons p (x ∷ xs) up
    (All-cons (λ q. p < q) x xs below
    (All-weaker (λ q. x < q) (λ q. p < q) (λ q a. omega arith) xs (IsStrictlyIncreasing-above x xs up)))
IsStrictlyIncreasing-inserted-if false x p xs is new up rec = let below = lt_of_le-ne (ltb-false p x is) new in
    IsStrictlyIncreasing-cons x (inserted xs p) rec
    (All-inserted (λ q. x < q) xs p (IsStrictlyIncreasing-above x xs up) below)

IsStrictlyIncreasing-inserted : (xs : List ℕ) (p : ℕ) → IsStrictlyIncreasing xs → (Contains xs p → ⊥)
    → IsStrictlyIncreasing (inserted xs p)
IsStrictlyIncreasing-inserted [] p up new = IsStrictlyIncreasing-one p
IsStrictlyIncreasing-inserted (x ∷ xs) p up new =
    IsStrictlyIncreasing-inserted-if (ltb p x) x p xs refl (λ e. new (0, omega arith, e)) up
    (IsStrictlyIncreasing-inserted xs p (IsStrictlyIncreasing-rest x xs up) (λ h. new (Contains-later x p xs h)))

IsStrictlyIncreasing-merged : (xs ys : List ℕ) → IsStrictlyIncreasing xs → IsStrictlyIncreasing ys
    → AreDisjoint xs ys → IsStrictlyIncreasing (merged_places xs ys)
IsStrictlyIncreasing-merged xs [] up also disjoint = up
IsStrictlyIncreasing-merged xs (y ∷ ys) up also disjoint =
    IsStrictlyIncreasing-inserted (merged_places xs ys) y
    (IsStrictlyIncreasing-merged xs ys up (IsStrictlyIncreasing-rest y ys also)
    (λ p a b. disjoint p a (Contains-later y p ys b)))
    (λ h. ⊎_elim (λ a. disjoint y a (Contains-first y ys))
    (λ b. let above = All-contains (λ p. y < p) ys y (IsStrictlyIncreasing-above y ys also) b in omega arith)
    (Contains-merged xs ys y h))

module _ {E : Type 0} where
  -- no places are places in any journal
  pub ArePlacesIn-none : (journal : List E) → ArePlacesIn [] journal
  ArePlacesIn-none journal = record { ascend = IsStrictlyIncreasing-none; inside = All-nil (λ p. p < length journal) }

  -- a place in a journal is below its length
  pub ArePlacesIn-below : (places : List ℕ) (journal : List E) (p : ℕ) → ArePlacesIn places journal → Contains places p
      → p < length journal
  ArePlacesIn-below places journal p are h = All-contains (λ q. q < length journal) places p are.inside h

  -- places in a journal are places in a longer one
  pub ArePlacesIn-longer : (places : List ℕ) (short long : List E) → ArePlacesIn places short
      → length short ≤ length long → ArePlacesIn places long
  ArePlacesIn-longer places short long are le = record {
    ascend = are.ascend;
    inside = All-weaker (λ p. p < length short) (λ p. p < length long) (λ p a. omega arith) places are.inside;
  }

  -- disjoint places in two journals merge into places in one that is no shorter
  pub ArePlacesIn-merged : (xs ys : List ℕ) (first second long : List E) → ArePlacesIn xs first → ArePlacesIn ys second
      → length first ≤ length long → length second ≤ length long → AreDisjoint xs ys → ArePlacesIn (merged_places xs ys) long
  ArePlacesIn-merged xs ys first second long a b le also disjoint = record {
    ascend = IsStrictlyIncreasing-merged xs ys a.ascend b.ascend disjoint;
    inside = All-from_contains (λ p. p < length long) (merged_places xs ys) (λ p h.
        ⊎_elim (λ at. let below = ArePlacesIn-below xs first p a at in omega arith)
        (λ at. let below = ArePlacesIn-below ys second p b at in omega arith) (Contains-merged xs ys p h));
  }

  Contains-places_after-if : (places : List ℕ) (before after : List E) (p : ℕ) (b : Bool)
      → ltb (length before) (length after) ≡ b → Contains (cond b (places ++ length before ∷ []) places) p
      → Contains places p ⊎ ((length before ≡ p) × (length before < length after))
  Contains-places_after-if places before after p true is h =
      ⊎_elim inl (λ e. inr (e, ltb-true (length before) (length after) is))
      (Contains-push_cases places (length before) p h)
  Contains-places_after-if places before after p false is h = inl h

  -- a place after a give was one before, or is the new entry's
  pub Contains-places_after : (places : List ℕ) (before after : List E) (p : ℕ)
      → Contains (places_after places before after) p
      → Contains places p ⊎ ((length before ≡ p) × (length before < length after))
  Contains-places_after places before after p h =
      Contains-places_after-if places before after p (ltb (length before) (length after)) refl h

  ArePlacesIn-after-if : (places : List ℕ) (before after : List E) (b : Bool) → ltb (length before) (length after) ≡ b
      → ArePlacesIn places before → length before ≤ length after
      → ArePlacesIn (cond b (places ++ length before ∷ []) places) after
  ArePlacesIn-after-if places before after true is are le = let longer = ltb-true (length before) (length after) is in
      record {
        ascend = IsStrictlyIncreasing-push places (length before) are.ascend are.inside;
        inside = All-push (λ p. p < length after) places (length before)
            (ArePlacesIn-longer places before after are le).inside longer;
      }
  ArePlacesIn-after-if places before after false is are le = ArePlacesIn-longer places before after are le

  -- places in a journal, with the new entry's, are places in the journal after
  pub ArePlacesIn-after : (places : List ℕ) (before after : List E) → ArePlacesIn places before
      → length before ≤ length after → ArePlacesIn (places_after places before after) after
  ArePlacesIn-after places before after are le =
      ArePlacesIn-after-if places before after (ltb (length before) (length after)) refl are le
