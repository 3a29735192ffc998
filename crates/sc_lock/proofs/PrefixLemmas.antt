-- Prefixes of journals, and the longer of two.
use Rattle.std.proofs.Common.{◌≡◌, ◌≤◌, List, [], ◌∷◌, ◌++◌, length, take, lt_of_not-le, Bool, true, false, sym, refl, ap, ◌∙◌, subst, ⊎_elim, inl, inr, arith, append_assoc, length-append}
use Rattle.std.proofs.lemmas.List.{append-nil}
use Rattle.std.proofs.Math.Seq.{take-append_seam}
use Rattle.std.proofs.lemmas.Bool.{ltb-true, ltb-false}
use Rattle.std.specs.Prelude.{ltb, cond}
use mathlib.Core.Logic.{dite}
use mathlib.Core.List.{IsPrefix, head-eq_of_cons-eq, tail-eq_of_cons-eq}
use native.Mathlib.Decide.{dec_le}
use Rattle.sc_lock.specs.Journal.{OneIsPrefix, longer, IsLongest}

-- a list is a prefix of itself
pub IsPrefix-self : {A : Type 0} (xs : List A) → IsPrefix xs xs
IsPrefix-self xs = ([], append-nil xs)

-- a prefix of a list is one also when the list grows
pub IsPrefix-more : {A : Type 0} (xs ys zs : List A) → IsPrefix xs ys → IsPrefix xs (ys ++ zs)
IsPrefix-more {A = A} xs ys zs p = (p.0 ++ zs, sym (append_assoc xs p.0 zs) ∙ ap (λ (l : List A). l ++ zs) p.1)

-- a prefix is no longer than the list
pub length-IsPrefix : {A : Type 0} (xs ys : List A) → IsPrefix xs ys → length xs ≤ length ys
length-IsPrefix xs ys p = let e : length (xs ++ p.0) ≡ length ys = ap length p.1 in omega (arith, length-append xs p.0)

-- a list that is followed by nothing is the whole
append-empty : {A : Type 0} (xs ys r : List A) → xs ++ r ≡ ys → length r ≡ 0 → xs ≡ ys
append-empty xs ys [] e h = sym (append-nil xs) ∙ e
append-empty xs ys (x ∷ r) e h = absurd (omega arith)

-- of two prefixes of one list, the one that is no longer is a prefix of the other
pub IsPrefix-shorter : {A : Type 0} (xs ys l : List A) → IsPrefix xs l → IsPrefix ys l → length xs ≤ length ys
    → IsPrefix xs ys
IsPrefix-shorter [] ys l p q h = (ys, refl)
IsPrefix-shorter (x ∷ xs) [] l p q h = absurd (omega arith)
IsPrefix-shorter (x ∷ xs) (y ∷ ys) [] p q h =
    let e : length ((x ∷ xs) ++ p.0) ≡ 0 = ap length p.1 in absurd (omega (arith, length-append (x ∷ xs) p.0))
IsPrefix-shorter {A = A} (x ∷ xs) (y ∷ ys) (z ∷ l) p q h =
    let t = IsPrefix-shorter xs ys l (p.0, tail-eq_of_cons-eq p.1) (q.0, tail-eq_of_cons-eq q.1) (omega arith) in
    let e : x ≡ y = head-eq_of_cons-eq p.1 ∙ sym (head-eq_of_cons-eq q.1) in (t.0, λ k. e k ∷ t.1 k)

-- a prefix as long as the list is the list
pub IsPrefix-whole : {A : Type 0} (xs ys : List A) → IsPrefix xs ys → length ys ≤ length xs → xs ≡ ys
IsPrefix-whole xs ys p h =
    let e : length (xs ++ p.0) ≡ length ys = ap length p.1 in
    append-empty xs ys p.0 p.1 (omega (arith, length-append xs p.0))

-- as many entries of a list as a prefix has are the prefix
pub take-IsPrefix : {A : Type 0} (xs ys : List A) → IsPrefix xs ys → take (length xs) ys ≡ xs
take-IsPrefix xs ys p = ap (take (length xs)) (sym p.1) ∙ take-append_seam xs p.0

-- the longer of two prefixes of one list is a prefix of it
pub longer-IsPrefix-if : {E : Type 0} (b : Bool) (xs ys l : List E) → IsPrefix xs l → IsPrefix ys l
    → IsPrefix (cond b ys xs) l
longer-IsPrefix-if true xs ys l p q = q
longer-IsPrefix-if false xs ys l p q = p

-- the longer of two is no shorter than either
pub longer-length-if : {E : Type 0} (b : Bool) (xs ys : List E) → ltb (length xs) (length ys) ≡ b
    → (length xs ≤ length (cond b ys xs)) × (length ys ≤ length (cond b ys xs))
longer-length-if true xs ys is = let l = ltb-true (length xs) (length ys) is in (omega arith, omega arith)
longer-length-if false xs ys is = let l = ltb-false (length xs) (length ys) is in (omega arith, l)

-- of two prefixes of one list, one is a prefix of the other
pub OneIsPrefix-of : {E : Type 0} (xs ys l : List E) → IsPrefix xs l → IsPrefix ys l → OneIsPrefix xs ys
OneIsPrefix-of xs ys l p q = dite (dec_le (length xs) (length ys)) (λ h. inl (IsPrefix-shorter xs ys l p q h))
    (λ h. let k = lt_of_not-le h in inr (IsPrefix-shorter ys xs l q p (omega arith)))

IsLongest-longer-if : {E : Type 0} (b : Bool) (xs ys : List E) → ltb (length xs) (length ys) ≡ b → OneIsPrefix xs ys
    → IsLongest xs ys (cond b ys xs)
IsLongest-longer-if true xs ys is (inl p) =
    record { one_of = inr refl; first_is_prefix = p; second_is_prefix = IsPrefix-self ys }
IsLongest-longer-if true xs ys is (inr p) =
    let l = ltb-true (length xs) (length ys) is in
    let m = length-IsPrefix ys xs p in absurd (omega arith)
IsLongest-longer-if false xs ys is (inr p) =
    record { one_of = inl refl; first_is_prefix = IsPrefix-self xs; second_is_prefix = p }
IsLongest-longer-if false xs ys is (inl p) =
    let l = ltb-false (length xs) (length ys) is in
    let same : xs ≡ ys = IsPrefix-whole xs ys p l in
    let second = subst (λ (z : List _). IsPrefix z xs) same (IsPrefix-self xs) in
    record { one_of = inl refl; first_is_prefix = IsPrefix-self xs; second_is_prefix = second }

-- where one list is a prefix of the other, both are prefixes of the longer
pub IsLongest-longer : {E : Type 0} (xs ys : List E) → OneIsPrefix xs ys → IsLongest xs ys (longer xs ys)
IsLongest-longer xs ys a = IsLongest-longer-if (ltb (length xs) (length ys)) xs ys refl a

-- two lists, each of which is a prefix of the other, are the same
IsPrefix-both : {E : Type 0} (xs ys : List E) → IsPrefix xs ys → IsPrefix ys xs → xs ≡ ys
IsPrefix-both xs ys p q = IsPrefix-whole xs ys p (length-IsPrefix ys xs q)

-- the longer of two is the same whichever comes first
pub IsLongest-same : {E : Type 0} (xs ys z w : List E) → IsLongest xs ys z → IsLongest ys xs w → z ≡ w
IsLongest-same xs ys z w a b = ⊎_elim
    (λ e. ⊎_elim
    (λ d. e ∙ IsPrefix-both xs ys (subst (IsPrefix xs) d b.second_is_prefix) (subst (IsPrefix ys) e a.second_is_prefix)
    ∙ sym d) (λ d. e ∙ sym d) b.one_of)
    (λ e. ⊎_elim (λ d. e ∙ sym d)
    (λ d. e ∙ IsPrefix-both ys xs (subst (IsPrefix ys) d b.first_is_prefix) (subst (IsPrefix xs) e a.first_is_prefix)
    ∙ sym d) b.one_of) a.one_of
