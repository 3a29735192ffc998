-- Header lines by their names.
use Rattle.std.proofs.Common.{◌≡◌, ℕ, ◌+◌, ◌<◌, Bool, true, false, List, [], ◌∷◌, ◌++◌, length, take, drop, get_or, map, refl, sym, ap, ◌∙◌}
use Rattle.std.specs.Prelude.{filter, ◌||◌, ◌&&◌, ◌==◌}
use Rattle.std.specs.List.{list_any, slice_split}
use Rattle.std.proofs.lemmas.Bool.{cond-true}
use Rattle.std.proofs.lemmas.List.{take-append-drop, drop_more}
use Rattle.std.proofs.lemmas.List.Folds.{list_any_more}
use Rattle.std.proofs.lemmas.List.Elements.{filter-append}
use Rattle.form_urlencoded.specs.Form.{split}
use Rattle.httparse.specs.Grammar.{RequestHead}
use Rattle.httparse.specs.Spans.{name_and_value}
use Rattle.sc_model.specs.Heads.{header_values, comma, says_close}
use Rattle.sc_http.specs.Lines.{is_named, line_values, is_close}

pub list_any-map : {X Y : Type 0} (p : Y → Bool) (h : X → Y) (xs : List X) → list_any p (map h xs) ≡ list_any (λ x. p (h x)) xs
list_any-map p h [] = refl
list_any-map p h (x ∷ xs) = ap (λ b. p (h x) || b) (list_any-map p h xs)

-- one line more that doesn't pass
pub none_more : {X : Type 0} (p : X → Bool) (xs : List X) (i : ℕ) (d : X) → i < length xs → list_any p (take i xs) ≡ false → p (get_or xs i d) ≡ false
    → list_any p (take (i + 1) xs) ≡ false
none_more p xs i d inside before here = rw (list_any_more p xs i d inside, before, here) refl

-- the values of the lines of a name, taken from what the lines are made of
pub values_in-map : {X : Type 0} (name : List ℕ) (h : X → List ℕ × List ℕ) (xs : List X)
    → line_values name (map h xs) ≡ map (λ x. (h x).1) (filter (λ x. is_named name (h x)) xs)
values_in-map name h [] = refl
values_in-map {X} name h (x ∷ xs) = by_name (values_in-map name h xs) (is_named name (h x)) refl
  where
    by_name : line_values name (map h xs) ≡ map (λ y. (h y).1) (filter (λ y. is_named name (h y)) xs) → (b : Bool) → is_named name (h x) ≡ b → line_values name (map h (x ∷ xs)) ≡ map (λ y. (h y).1) (filter (λ y. is_named name (h y)) (x ∷ xs))
    by_name later true e = rw (e, later) refl
    by_name later false e = rw (e, later) refl

-- the values by the lines of the model are those by the names and values of its fields
pub values_of_head : (name : List ℕ) (head : RequestHead) → header_values name head ≡ line_values name (map name_and_value head.fields)
values_of_head name head = sym (values_in-map name name_and_value head.fields)

pub filter_none : {X : Type 0} (p : X → Bool) (xs : List X) → list_any p xs ≡ false → filter p xs ≡ []
filter_none p [] none = refl
filter_none {X} p (x ∷ xs) none = by_test (filter_none p xs) (p x) refl none
  where
    by_test : (list_any p xs ≡ false → filter p xs ≡ []) → (b : Bool) → p x ≡ b → (p x || list_any p xs) ≡ false → filter p (x ∷ xs) ≡ []
    by_test later true e none = let bad : true ≡ false = rw e at none in cc
    by_test later false e none = let rest : list_any p xs ≡ false = rw e at none in rw (e) (later rest)

-- the first that passes, and what passes after it
pub filter_first : {X : Type 0} (p : X → Bool) (xs : List X) (i : ℕ) (d : X) → i < length xs → list_any p (take i xs) ≡ false → p (get_or xs i d) ≡ true
    → filter p xs ≡ get_or xs i d ∷ filter p (drop (i + 1) xs)
filter_first p xs i d inside none here =
    ap (filter p) (sym (take-append-drop i xs) ∙ ap (λ ys. take i xs ++ ys) (drop_more xs i d inside))
    ∙ filter-append p (take i xs) (get_or xs i d ∷ drop (i + 1) xs)
    ∙ ap (λ ys. ys ++ filter p (get_or xs i d ∷ drop (i + 1) xs)) (filter_none p (take i xs) none)
    ∙ cond-true _ _ _ here

-- the tokens of a list are the parts between its commas
pub split_is : (separator : ℕ) (bytes : List ℕ) → split separator bytes ≡ slice_split (λ b. b == separator) bytes
unfolding split
split_is separator [] = refl
split_is separator (b ∷ bytes) = by_byte (split_is separator bytes) (b == separator) refl
  where
    by_byte : split separator bytes ≡ slice_split (λ x. x == separator) bytes → (same : Bool) → (b == separator) ≡ same
        → split separator (b ∷ bytes) ≡ slice_split (λ x. x == separator) (b ∷ bytes)
    by_byte later true e = rw (e, later) refl
    by_byte later false e = rw (e, later) refl

-- the tokens of a Connection header, as they are looked at
pub says_close_is : (value : List ℕ) → list_any is_close (slice_split (λ b. b == comma) value) ≡ says_close value
says_close_is value = ap (list_any is_close) (sym (split_is comma value))

-- whether a header of a name says close, line by line
pub any_close : {X : Type 0} (name : List ℕ) (h : X → List ℕ × List ℕ) (xs : List X)
    → list_any says_close (line_values name (map h xs)) ≡ list_any (λ x. is_named name (h x) && list_any is_close (slice_split (λ b. b == comma) (h x).1)) xs
any_close name h [] = refl
any_close {X} name h (x ∷ xs) = by_name (any_close name h xs) (is_named name (h x)) refl
  where
    by_name : list_any says_close (line_values name (map h xs)) ≡ list_any (λ y. is_named name (h y) && list_any is_close (slice_split (λ b. b == comma) (h y).1)) xs
        → (b : Bool) → is_named name (h x) ≡ b
        → list_any says_close (line_values name (map h (x ∷ xs)))
        ≡ list_any (λ y. is_named name (h y) && list_any is_close (slice_split (λ b. b == comma) (h y).1)) (x ∷ xs)
    by_name later true e = rw (e, later, ← says_close_is (h x).1) refl
    by_name later false e = rw (e, later) refl

-- whether a value of a header of a name passes a test, line by line
pub any_value : {X : Type 0} (p : List ℕ → Bool) (name : List ℕ) (h : X → List ℕ × List ℕ) (xs : List X)
    → list_any p (line_values name (map h xs)) ≡ list_any (λ x. is_named name (h x) && p (h x).1) xs
any_value p name h [] = refl
any_value {X} p name h (x ∷ xs) = by_name (any_value p name h xs) (is_named name (h x)) refl
  where
    by_name : list_any p (line_values name (map h xs)) ≡ list_any (λ y. is_named name (h y) && p (h y).1) xs
        → (b : Bool) → is_named name (h x) ≡ b
        → list_any p (line_values name (map h (x ∷ xs))) ≡ list_any (λ y. is_named name (h y) && p (h y).1) (x ∷ xs)
    by_name later true e = rw (e, later) refl
    by_name later false e = rw (e, later) refl
