-- The lines that state the framing of a body, of those that were parsed.
use Rattle.std.proofs.Common.{◌≡◌, ℕ, suc, ◌+◌, ◌<◌, Bool, true, false, List, [], ◌∷◌, length, take, drop, get_or, map, Ok, Err, refl, sym, ap, ◌∙◌, arith}
use Rattle.std.specs.Prelude.{filter, nat_lt, if◌then◌else◌}
use Rattle.std.specs.List.{list_any}
use Rattle.std.proofs.lemmas.Bool.{lt-ltb}
use Rattle.sc_model.specs.Heads.{Framing, LengthFault, malformed_length, is_framing, framing_of, alone, framing_by}
use Rattle.sc_http.proofs.HeaderLemmas.{filter_none, filter_first}

-- what passes of the things that the items are made into is made of those items that pass
filter-map : {X Y : Type 0} (p : Y → Bool) (h : X → Y) (xs : List X) → filter p (map h xs) ≡ map h (filter (λ x. p (h x)) xs)
filter-map p h [] = refl
filter-map {X} p h (x ∷ xs) = by_test (filter-map p h xs) (p (h x)) refl
  where
    by_test : filter p (map h xs) ≡ map h (filter (λ y. p (h y)) xs) → (b : Bool) → p (h x) ≡ b → filter p (map h (x ∷ xs)) ≡ map h (filter (λ y. p (h y)) (x ∷ xs))
    by_test later true e = rw (e, later) refl
    by_test later false e = rw (e, later) refl

-- some pass where one passes
some_pass : {X : Type 0} (p : X → Bool) (xs : List X) → nat_lt 0 (length (filter p xs)) ≡ list_any p xs
some_pass p [] = refl
some_pass {X} p (x ∷ xs) = by_test (some_pass p xs) (p x) refl
  where
    by_test : nat_lt 0 (length (filter p xs)) ≡ list_any p xs → (b : Bool) → p x ≡ b → nat_lt 0 (length (filter p (x ∷ xs))) ≡ list_any p (x ∷ xs)
    by_test later true e =
        let some : 0 < suc (length (filter p xs)) = omega arith in
        rw (e) (lt-ltb 0 (suc (length (filter p xs))) some)
    by_test later false e = rw (e) later

-- no line states the framing
pub no_framing : {X : Type 0} (h : X → List ℕ × List ℕ) (xs : List X) → list_any (λ x. is_framing (h x)) xs ≡ false → filter is_framing (map h xs) ≡ []
no_framing h xs none = filter-map is_framing h xs ∙ ap (map h) (filter_none (λ x. is_framing (h x)) xs none)

-- the first line that states it, and those after it
first_framing : {X : Type 0} (h : X → List ℕ × List ℕ) (xs : List X) (i : ℕ) (d : X) → i < length xs
    → list_any (λ x. is_framing (h x)) (take i xs) ≡ false → is_framing (h (get_or xs i d)) ≡ true
    → filter is_framing (map h xs) ≡ h (get_or xs i d) ∷ filter is_framing (map h (drop (i + 1) xs))
first_framing h xs i d inside none here =
    filter-map is_framing h xs
    ∙ ap (map h) (filter_first (λ x. is_framing (h x)) xs i d inside none here)
    ∙ ap (λ ys. h (get_or xs i d) ∷ ys) (sym (filter-map is_framing h (drop (i + 1) xs)))

-- Of the lines that state the framing the first is known: its value can't be read,
pub states_fault : {X : Type 0} (h : X → List ℕ × List ℕ) (xs : List X) (i : ℕ) (d : X) (fault : LengthFault) → i < length xs
    → list_any (λ x. is_framing (h x)) (take i xs) ≡ false → is_framing (h (get_or xs i d)) ≡ true
    → framing_of (h (get_or xs i d)) ≡ Err fault → framing_by (filter is_framing (map h xs)) ≡ Err fault
states_fault h xs i d fault inside none here e =
    ap framing_by (first_framing h xs i d inside none here)
    ∙ ap (λ r. alone r (nat_lt 0 (length (filter is_framing (map h (drop (i + 1) xs)))))) e

-- or it can, and the others decide.
pub states_framing : {X : Type 0} (h : X → List ℕ × List ℕ) (xs : List X) (i : ℕ) (d : X) (framing : Framing) → i < length xs
    → list_any (λ x. is_framing (h x)) (take i xs) ≡ false → is_framing (h (get_or xs i d)) ≡ true
    → framing_of (h (get_or xs i d)) ≡ Ok framing → (others : List X) → others ≡ drop (i + 1) xs
    → (several : Bool) → several ≡ list_any is_framing (map h others)
    → framing_by (filter is_framing (map h xs)) ≡ (if several then Err malformed_length else Ok framing)
states_framing h xs i d framing inside none here e others after several by =
    ap framing_by (first_framing h xs i d inside none here)
    ∙ ap (λ r. alone r (nat_lt 0 (length (filter is_framing (map h (drop (i + 1) xs)))))) e
    ∙ ap (λ b. if b then Err malformed_length else Ok framing)
    (some_pass is_framing (map h (drop (i + 1) xs)) ∙ ap (λ ys. list_any is_framing (map h ys)) (sym after) ∙ sym by)
