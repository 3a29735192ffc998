-- Lists in the order of a key that rises.
use Rattle.std.proofs.Common.{◌≡◌, ◌≢◌, ℕ, zero, suc, ◌+◌, ◌<◌, ◌≤◌, Bool, true, false, cond, ◌&&◌, eqb, List, [], ◌∷◌, ◌++◌, length, get_or, map, refl, ap, All, Contains, Some, slice_get, arith, add-one}
use Rattle.std.specs.List.{count_by, filter, AllPairs}
use Rattle.std.specs.List.Sorted.{IsStrictlyIncreasing}
use Rattle.std.proofs.lemmas.Bool.{eq-eqb, ne_eqb}
use Rattle.std.proofs.lemmas.List.{get_or-map, length-map}
use Rattle.std.proofs.lemmas.List.Kept.{AllPairs-from_increasing}
use Rattle.std.proofs.lemmas.List.Elements.{All-contains, All-filter, All-map, All-append, All-head, All-tail, All-weaker}
use Rattle.sc_cluster.proofs.ListLemmas.{get_or-map_counted, same_from_key}
use Rattle.sc_cluster.proofs.CountLemmas.{count_by-cons, count_by-none}

-- a number that stands before others that rise
IsStrictlyIncreasing-head : (n : ℕ) (ns : List ℕ) → IsStrictlyIncreasing (n ∷ ns) → All (λ m. n < m) ns
IsStrictlyIncreasing-head n ns up k d below =
    AllPairs-from_increasing (n ∷ ns) up 0 (suc k) d (omega arith) (omega arith)

IsStrictlyIncreasing-tail : (n : ℕ) (ns : List ℕ) → IsStrictlyIncreasing (n ∷ ns) → IsStrictlyIncreasing ns
IsStrictlyIncreasing-tail n ns up k below =
    let next : get_or (n ∷ ns) (suc k) 0 < get_or (n ∷ ns) (suc k + 1) 0 = up (suc k) (omega arith) in
    rw (add-one k) (rw (add-one (suc k)) at next)

IsStrictlyIncreasing-cons : (n : ℕ) (ns : List ℕ) → All (λ m. n < m) ns → IsStrictlyIncreasing ns
    → IsStrictlyIncreasing (n ∷ ns)
IsStrictlyIncreasing-cons n ns head tail zero below = head 0 0 (omega arith)
IsStrictlyIncreasing-cons n ns head tail (suc k) below =
    rw (add-one (suc k), ← add-one k) (tail k (omega arith))

-- each number is below each of the others
abbrev pub AreBelow : List ℕ → List ℕ → Type 0
AreBelow ms ns = All (λ m. All (λ n. m < n) ns) ms

pub IsStrictlyIncreasing-append : (ms ns : List ℕ) → IsStrictlyIncreasing ms → IsStrictlyIncreasing ns
    → AreBelow ms ns → IsStrictlyIncreasing (ms ++ ns)
IsStrictlyIncreasing-append [] ns up_ms up_ns below = up_ns
IsStrictlyIncreasing-append (m ∷ ms) ns up_ms up_ns below =
    let above = All-head (λ l. All (λ n. l < n) ns) m ms below in
    let rest = All-tail (λ l. All (λ n. l < n) ns) m ms below in
    IsStrictlyIncreasing-cons m (ms ++ ns)
    (All-append (λ n. m < n) ms ns (IsStrictlyIncreasing-head m ms up_ms) above)
    (IsStrictlyIncreasing-append ms ns (IsStrictlyIncreasing-tail m ms up_ms) up_ns rest)

-- numbers with another between them and others
pub AreBelow-between : (ms ns : List ℕ) (l : ℕ) → All (λ m. m ≤ l) ms → All (λ n. l < n) ns → AreBelow ms ns
AreBelow-between ms ns l low high =
    All-weaker (λ m. m ≤ l) (λ m. All (λ n. m < n) ns)
    (λ m most. All-weaker (λ n. l < n) (λ n. m < n) (λ n more. omega arith) ns high) ms low

-- the keys of the elements that a filter leaves
keys_above : {A : Type 0} (key : A → ℕ) (x : A) (xs : List A) → IsStrictlyIncreasing (map key (x ∷ xs))
    → All (λ y. key x < key y) xs
keys_above key x xs up k d below =
    let above = IsStrictlyIncreasing-head (key x) (map key xs) up k 0 (omega (arith, length-map xs key)) in
    rw (get_or-map key xs k d 0 below) at above

keys_rise : {A : Type 0} (key : A → ℕ) (x : A) (xs : List A) → IsStrictlyIncreasing (map key (x ∷ xs))
    → IsStrictlyIncreasing (map key xs)
keys_rise key x xs = IsStrictlyIncreasing-tail (key x) (map key xs)

pub IsStrictlyIncreasing-map-filter : {A : Type 0} (key : A → ℕ) (p : A → Bool) (xs : List A)
    → IsStrictlyIncreasing (map key xs) → IsStrictlyIncreasing (map key (filter p xs))
IsStrictlyIncreasing-map-filter key p [] up = up
IsStrictlyIncreasing-map-filter key p (x ∷ xs) up =
    by (p x) (IsStrictlyIncreasing-map-filter key p xs (keys_rise key x xs up)) where
      above : All (λ n. key x < n) (map key (filter p xs))
      above =
          All-map (λ n. key x < n) key (filter p xs)
          (All-filter p (λ y. key x < key y) xs (keys_above key x xs up))

      by : (t : Bool) → IsStrictlyIncreasing (map key (filter p xs))
          → IsStrictlyIncreasing (map key (cond t (x ∷ filter p xs) (filter p xs)))
      by true rest = IsStrictlyIncreasing-cons (key x) (map key (filter p xs)) above rest
      by false rest = rest

-- keys that are counted up
pub IsStrictlyIncreasing-counted : {A : Type 0} (key : A → ℕ) (n : ℕ) (xs : List A)
    → ((i : ℕ) (x : A) → slice_get xs i ≡ Some x → key x ≡ n + i) → IsStrictlyIncreasing (map key xs)
IsStrictlyIncreasing-counted key n xs each k below =
    let inside : k + 1 < length xs = omega (arith, length-map xs key) in
    let here = get_or-map_counted key (λ i. n + i) xs each k 0 (omega arith) in
    let next = get_or-map_counted key (λ i. n + i) xs each (k + 1) 0 inside in
    omega arith

-- no two have the same key
AllPairs-from_increasing_apart : (ns : List ℕ) → IsStrictlyIncreasing ns → AllPairs (λ m n. m ≢ n) ns
AllPairs-from_increasing_apart ns up i j d before below =
    let less = AllPairs-from_increasing ns up i j d before below in omega arith

pub same_from_rising_key : {A : Type 0} (key : A → ℕ) (xs : List A) (x y : A)
    → IsStrictlyIncreasing (map key xs)
    → Contains xs x → Contains xs y → key x ≡ key y → x ≡ y
same_from_rising_key key xs x y up = same_from_key key xs x y (AllPairs-from_increasing_apart (map key xs) up)

-- a test that asks for the key of an element too counts that element alone
abbrev pub at_key : {A : Type 0} → (A → ℕ) → (A → Bool) → A → A → Bool
at_key key p x y = eqb (key y) (key x) && p y

at_key-other : {A : Type 0} (key : A → ℕ) (p : A → Bool) (x y : A) → key y ≢ key x → at_key key p x y ≡ false
at_key-other key p x y other = let differs = ne_eqb (key y) (key x) other in rw differs refl

at_key-same : {A : Type 0} (key : A → ℕ) (p : A → Bool) (x y : A) → y ≡ x → at_key key p x y ≡ p x
at_key-same key p x y same = let equal = eq-eqb (key y) (key x) (ap key same) in rw equal (ap p same)

pub count_by-at_key : {A : Type 0} (key : A → ℕ) (p : A → Bool) (x : A) (xs : List A)
    → IsStrictlyIncreasing (map key xs) → Contains xs x → count_by (at_key key p x) xs ≡ cond (p x) 1 0
count_by-at_key key p x [] up (k, below, is) = absurd (omega arith)
count_by-at_key {A} key p x (y ∷ ys) up (zero, below, is) =
    let same = at_key-same key p x y is in
    let first : cond {A = ℕ} (at_key key p x y) 1 0 ≡ cond (p x) 1 0 = ap (λ t. cond t 1 0) same in
    let none = count_by-none (at_key key p x) ys
    (All-weaker (λ z. key y < key z) (λ z. at_key key p x z ≡ false) other ys (keys_above key y ys up)) in
    omega (arith, count_by-cons (at_key key p x) y ys) where
      other : (z : A) → key y < key z → at_key key p x z ≡ false
      other z above = let key_is : key y ≡ key x = ap key is in at_key-other key p x z (omega arith)
count_by-at_key key p x (y ∷ ys) up (suc k, below, is) =
    let there : Contains ys x = (k, omega arith, is) in
    let above : key y < key x = All-contains (λ z. key y < key z) ys x (keys_above key y ys up) there in
    let other = at_key-other key p x y (omega arith) in
    let first : cond {A = ℕ} (at_key key p x y) 1 0 ≡ 0 = ap (λ t. cond t 1 0) other in
    let rest = count_by-at_key key p x ys (keys_rise key y ys up) there in
    omega (arith, count_by-cons (at_key key p x) y ys)
