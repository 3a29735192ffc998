-- Laws on a text cut at a byte, and on the parts of an id.
use Rattle.std.proofs.Common.{◌≡◌, ◌≢◌, ℕ, suc, ◌+◌, ◌-◌, ◌<◌, ◌≤◌, Bool, true, false, cond, eqb, ltb, List, [], ◌∷◌, ◌++◌, length, get_or, take, drop, refl, sym, ap, subst, ◌∙◌, arith, ◌⊎◌, inl, inr, append_assoc}
use Rattle.std.specs.Prelude.{count_by, nat_eq, not, ◌&&◌}
use Rattle.std.specs.List.{after_first, position_or_len, ends_with}
use Rattle.std.proofs.lemmas.Bool.{false≢true, cases_lt}
use Rattle.std.proofs.lemmas.List.Sums.{sum_by-cons, sum_by-append, get_or-le-sum_by, fails_before_first, passes_at_first, split_at_first}
use Rattle.std.proofs.lemmas.Bool.Decides.{Decides-eqb, nat_tests}
use Rattle.std.proofs.lemmas.Slice.Eq.{ends_is}
use Rattle.std.proofs.lemmas.List.{get_or-take, length-take, take_all, drop_more, take-append-drop}
use Rattle.sc_hash.proofs.CutLemmas.{Lacks, same_cut}
use Rattle.sc_router.specs.Parts.{before_mark, after_mark, occurrences, parts}

-- a list in which no element passes has none that does
count-none : {X : Type 0} (p : X → Bool) (xs : List X) → length xs ≤ position_or_len p xs → count_by p xs ≡ 0
count-none p [] h = refl
count-none p (x ∷ xs) h = sum_by-cons (λ y. cond (p y) 1 0) x xs ∙ by (p x) h (count-none p xs) where
  by : (t : Bool) → suc (length xs) ≤ cond (not t) (1 + position_or_len p xs) 0 → (length xs ≤ position_or_len p xs → count_by p xs ≡ 0) → cond t 1 0 + count_by p xs ≡ 0
  by true k rest = absurd (omega arith)
  by false k rest = omega (arith, rest (omega arith))

-- the first that passes is one, and the others stand after it
count-found : {X : Type 0} (p : X → Bool) (xs : List X) → position_or_len p xs < length xs → count_by p xs ≡ 1 + count_by p (after_first p xs)
count-found p [] h = absurd (omega arith)
count-found p (x ∷ xs) h = sum_by-cons (λ y. cond (p y) 1 0) x xs ∙ by (p x) h (count-found p xs) where
  by : (t : Bool) → cond (not t) (1 + position_or_len p xs) 0 < suc (length xs) → (position_or_len p xs < length xs → count_by p xs ≡ 1 + count_by p (after_first p xs)) → cond t 1 0 + count_by p xs ≡ 1 + count_by p (drop (cond (not t) (1 + position_or_len p xs) 0 + 1) (x ∷ xs))
  by true k rest = refl
  by false k rest = let n = position_or_len p xs in let e : (1 + n) + 1 ≡ suc (n + 1) = omega arith in rw e (omega (arith, rest (omega arith)))

-- where no byte is counted there is none, and where none stands before the first
Lacks-none : (mark : ℕ) (text : List ℕ) → occurrences mark text ≡ 0 → Lacks mark text
Lacks-none mark text h i lt e =
    let f : ℕ → ℕ = λ b. cond (eqb b mark) 1 0 in
    let here : f (get_or text i 0) ≤ 0 = subst (λ n. f (get_or text i 0) ≤ n) h (get_or-le-sum_by f text i 0 lt) in
    let yes : eqb (get_or text i 0) mark ≡ true = (Decides-eqb _ mark).1 e in
    absurd (one_le (eqb (get_or text i 0) mark) yes here) where
      one_le : (t : Bool) → t ≡ true → cond t 1 0 ≤ 0 → ⊥
      one_le true k le = absurd (omega arith)
      one_le false k le = false≢true k

found-below : (mark : ℕ) (text : List ℕ) → 0 < occurrences mark text → position_or_len (λ b. eqb b mark) text < length text
found-below mark text h = by (ltb (position_or_len (λ b. eqb b mark) text) (length text)) refl where
  by : (t : Bool) → ltb (position_or_len (λ b. eqb b mark) text) (length text) ≡ t → position_or_len (λ b. eqb b mark) text < length text
  by true e = grind (arith, nat_tests)
  by false e = let far : length text ≤ position_or_len (λ b. eqb b mark) text = grind (arith, nat_tests) in absurd (omega (arith, count-none (λ b. eqb b mark) text far))

Lacks-before : (mark : ℕ) (text : List ℕ) → 0 < occurrences mark text → Lacks mark (before_mark mark text)
Lacks-before mark text h i lt e =
    let p : ℕ → Bool = λ b. eqb b mark in
    let n = position_or_len p text in
    let inside : i < n = omega (arith, length-take n text) in
    let fails = fails_before_first p text i 0 inside in
    let same : get_or text i 0 ≡ mark = sym (get_or-take n text i 0 inside) ∙ e in
    let passes = (Decides-eqb (get_or text i 0) mark).1 same in
    false≢true (sym fails ∙ passes)

cut-before : (mark : ℕ) (text : List ℕ) → 0 < occurrences mark text → text ≡ before_mark mark text ++ mark ∷ after_mark mark text
cut-before mark text h =
    let p : ℕ → Bool = λ b. eqb b mark in
    let below = found-below mark text h in
    let at : get_or text (position_or_len p text) 0 ≡ mark = (Decides-eqb _ mark).0 (passes_at_first p text 0 below) in
    split_at_first p text 0 below ∙ ap (λ b. before_mark mark text ++ b ∷ after_mark mark text) at

-- a text has one mark more than what stands after its first
pub occurrences-after : (mark : ℕ) (text : List ℕ) → 0 < occurrences mark text → occurrences mark text ≡ 1 + occurrences mark (after_mark mark text)
occurrences-after mark text h = count-found (λ b. eqb b mark) text (found-below mark text h)

-- the first mark comes after what is before it
pub before-lt : (mark : ℕ) (text : List ℕ) → 0 < occurrences mark text → length (before_mark mark text) < length text
before-lt mark text h = omega (arith, length-take (position_or_len (λ b. eqb b mark) text) text, found-below mark text h)

pub after-place : (mark at : ℕ) (text : List ℕ) → 0 < occurrences mark text → at ≡ length (before_mark mark text) → drop (at + 1) text ≡ after_mark mark text
after-place mark at text h e =
    let same : at ≡ position_or_len (λ b. eqb b mark) text = omega (arith, length-take (position_or_len (λ b. eqb b mark) text) text, found-below mark text h) in
    ap (λ n. drop (n + 1) text) same

-- a text without a mark is all before the first
pub before-none : (mark : ℕ) (text : List ℕ) → occurrences mark text ≡ 0 → before_mark mark text ≡ text
before-none mark text h = by (cases_lt (position_or_len (λ b. eqb b mark) text) (length text)) where
  by : (position_or_len (λ b. eqb b mark) text < length text) ⊎ (length text ≤ position_or_len (λ b. eqb b mark) text) → before_mark mark text ≡ text
  by (inl below) = absurd (omega (arith, count-found (λ b. eqb b mark) text below))
  by (inr far) = take_all (position_or_len (λ b. eqb b mark) text) text far

-- what is joined by a mark has it, and is cut there where the first text has none
pub found-joined : (mark : ℕ) (xs ys : List ℕ) → 0 < occurrences mark (xs ++ mark ∷ ys)
found-joined mark xs ys =
    let one : eqb mark mark ≡ true = (Decides-eqb mark mark).1 refl in
    let here : occurrences mark (mark ∷ ys) ≡ 1 + occurrences mark ys = sum_by-cons (λ b. cond (eqb b mark) 1 0) mark ys ∙ ap (λ t. cond t 1 0 + occurrences mark ys) one in
    omega (arith, sum_by-append (λ b. cond (eqb b mark) 1 0) xs (mark ∷ ys), here)

cut-joined : (mark : ℕ) (xs ys : List ℕ) → Lacks mark xs → (before_mark mark (xs ++ mark ∷ ys) ≡ xs) × (after_mark mark (xs ++ mark ∷ ys) ≡ ys)
cut-joined mark xs ys none =
    let text = xs ++ mark ∷ ys in
    let some = found-joined mark xs ys in
    let same = same_cut mark xs ys (before_mark mark text) (after_mark mark text) none (Lacks-before mark text some) (cut-before mark text some) in
    (sym same.0, sym same.1)

-- a text is cut at a mark before which it has none
pub cut-at : (mark i : ℕ) (text : List ℕ) → i < length text → get_or text i 0 ≡ mark → occurrences mark (take i text) ≡ 0 → (before_mark mark text ≡ take i text) × (after_mark mark text ≡ drop (i + 1) text)
cut-at mark i text lt at none =
    let parts : take i text ++ mark ∷ drop (i + 1) text ≡ text = ap (λ b. take i text ++ b ∷ drop (i + 1) text) (sym at) ∙ ap (λ rest. take i text ++ rest) (sym (drop_more text i 0 lt)) ∙ take-append-drop i text in
    let Cut : List ℕ → Type 0 = λ t. (before_mark mark t ≡ take i text) × (after_mark mark t ≡ drop (i + 1) text) in
    subst Cut parts (cut-joined mark (take i text) (drop (i + 1) text) (Lacks-none mark (take i text) none))

pub found-at : (mark i : ℕ) (text : List ℕ) → i < length text → get_or text i 0 ≡ mark → 0 < occurrences mark text
found-at mark i text lt at =
    let f : ℕ → ℕ = λ b. cond (eqb b mark) 1 0 in
    let one : f (get_or text i 0) ≡ 1 = ap (λ t. cond t 1 0) ((Decides-eqb (get_or text i 0) mark).1 at) in
    omega (arith, one, get_or-le-sum_by f text i 0 lt)

-- one more byte after a text
pub occurrences-push_other : (mark byte : ℕ) (text : List ℕ) → byte ≢ mark → occurrences mark (text ++ byte ∷ []) ≡ occurrences mark text
occurrences-push_other mark byte text other =
    let not_one : eqb byte mark ≡ false = grind (arith, nat_tests) in
    sum_by-append (λ b. cond (eqb b mark) 1 0) text (byte ∷ []) ∙ ap (λ t. occurrences mark text + (0 + cond t 1 0)) not_one ∙ omega arith

pub occurrences-push_le : (mark byte : ℕ) (text : List ℕ) → occurrences mark text ≤ occurrences mark (text ++ byte ∷ [])
occurrences-push_le mark byte text = omega (arith, sum_by-append (λ b. cond (eqb b mark) 1 0) text (byte ∷ []))

pub before-push_first : (mark : ℕ) (text : List ℕ) → occurrences mark text ≡ 0 → before_mark mark (text ++ mark ∷ []) ≡ text
before-push_first mark text none = (cut-joined mark text [] (Lacks-none mark text none)).0

pub before-push : (mark byte : ℕ) (text : List ℕ) → 0 < occurrences mark text → before_mark mark (text ++ byte ∷ []) ≡ before_mark mark text
before-push mark byte text some =
    ap (λ t. before_mark mark (t ++ byte ∷ [])) (cut-before mark text some)
    ∙ ap (before_mark mark) (append_assoc (before_mark mark text) (mark ∷ after_mark mark text) (byte ∷ []))
    ∙ (cut-joined mark (before_mark mark text) (after_mark mark text ++ byte ∷ []) (Lacks-before mark text some)).0

-- a text of one byte that has a mark is the mark
pub lone_mark : (mark : ℕ) (text : List ℕ) → 0 < occurrences mark text → length text ≡ 1 → text ≡ mark ∷ []
lone_mark mark [] h l = absurd (omega arith)
lone_mark mark (b ∷ []) h l = ap (λ c. c ∷ []) (by (eqb b mark) refl h) where
  by : (t : Bool) → eqb b mark ≡ t → 0 < 0 + cond t 1 0 → b ≡ mark
  by true e k = (Decides-eqb b mark).0 e
  by false e k = absurd (omega arith)
lone_mark mark (b ∷ c ∷ text) h l = absurd (omega arith)

-- the only two `!` of an id are its last two bytes exactly where a lone one stands after the first
ends_twice : (id : List ℕ) → ends_with nat_eq id (33 ∷ 33 ∷ []) ≡ true → id ≡ take (length id - 2) id ++ 33 ∷ 33 ∷ []
ends_twice id h = (ends_is Decides-eqb id (33 ∷ 33 ∷ []) (ends_with nat_eq id (33 ∷ 33 ∷ [])) refl).0 h

ends_twice-from : (id prefix : List ℕ) → id ≡ prefix ++ 33 ∷ 33 ∷ [] → ends_with nat_eq id (33 ∷ 33 ∷ []) ≡ true
ends_twice-from id prefix h = (ends_is Decides-eqb id (33 ∷ 33 ∷ []) (ends_with nat_eq id (33 ∷ 33 ∷ [])) refl).1 prefix h

pub parts-one : (id : List ℕ) → occurrences 33 id ≡ 0 → parts id ≡ id ∷ []
unfolding parts
parts-one id h = rw h refl

pub parts-two : (id : List ℕ) → occurrences 33 id ≡ 1 → parts id ≡ before_mark 33 id ∷ after_mark 33 id ∷ []
unfolding parts
parts-two id h = rw h refl

pub parts-open : (id : List ℕ) → occurrences 33 id ≡ 1 + occurrences 33 (after_mark 33 id) → 0 < occurrences 33 (after_mark 33 id) → length (after_mark 33 id) ≡ 1 → parts id ≡ before_mark 33 id ∷ [] ∷ []
unfolding parts
parts-open id h some one =
    let lone = lone_mark 33 (after_mark 33 id) some one in
    let two : occurrences 33 id ≡ 2 = h ∙ ap (λ text. 1 + occurrences 33 text) lone in
    let ends = ends_twice-from id (before_mark 33 id) (cut-before 33 id (omega arith) ∙ ap (λ text. before_mark 33 id ++ 33 ∷ text) lone) in
    rw (two, ends) refl

both_true : (a b : Bool) → a && b ≡ true → (a ≡ true) × (b ≡ true)
both_true true b h = (refl, h)
both_true false b h = absurd (false≢true h)

not_ends_twice : (id : List ℕ) → 0 < occurrences 33 id → length (after_mark 33 id) ≢ 1 → eqb (occurrences 33 id) 2 && ends_with nat_eq id (33 ∷ 33 ∷ []) ≡ true → ⊥
not_ends_twice id some several h =
    let both = both_true (eqb (occurrences 33 id) 2) (ends_with nat_eq id (33 ∷ 33 ∷ [])) h in
    let two : occurrences 33 id ≡ 2 = (Decides-eqb (occurrences 33 id) 2).0 both.0 in
    let prefix = take (length id - 2) id in
    let ends = ends_twice id both.1 in
    let counted : occurrences 33 id ≡ occurrences 33 prefix + 2 = ap (occurrences 33) ends ∙ sum_by-append (λ b. cond (eqb b 33) 1 0) prefix (33 ∷ 33 ∷ []) in
    let none : occurrences 33 prefix ≡ 0 = omega arith in
    let same = same_cut 33 prefix (33 ∷ []) (before_mark 33 id) (after_mark 33 id) (Lacks-none 33 prefix none) (Lacks-before 33 id some) (sym ends ∙ cut-before 33 id some) in
    several (sym (ap length same.1))

abbrev AreThree : List ℕ → Bool → Type 0
AreThree id t = cond t (before_mark 33 id ∷ [] ∷ []) (before_mark 33 id ∷ before_mark 33 (after_mark 33 id) ∷ after_mark 33 (after_mark 33 id) ∷ []) ≡ before_mark 33 id ∷ before_mark 33 (after_mark 33 id) ∷ after_mark 33 (after_mark 33 id) ∷ []

pub parts-three : (id : List ℕ) → occurrences 33 id ≡ 1 + occurrences 33 (after_mark 33 id) → 0 < occurrences 33 (after_mark 33 id) → length (after_mark 33 id) ≢ 1 → parts id ≡ before_mark 33 id ∷ before_mark 33 (after_mark 33 id) ∷ after_mark 33 (after_mark 33 id) ∷ []
unfolding parts
parts-three id h some several =
    let not_zero : eqb (occurrences 33 id) 0 ≡ false = grind (arith, nat_tests) in
    let not_one : eqb (occurrences 33 id) 1 ≡ false = grind (arith, nat_tests) in
    rw (not_zero, not_one) (by (eqb (occurrences 33 id) 2 && ends_with nat_eq id (33 ∷ 33 ∷ [])) refl) where
      by : (t : Bool) → eqb (occurrences 33 id) 2 && ends_with nat_eq id (33 ∷ 33 ∷ []) ≡ t → AreThree id t
      by true e = absurd (not_ends_twice id (omega arith) several e)
      by false e = refl
