-- What a search of slices by their id finds.
use Rattle.std.proofs.Common.{◌≡◌, ◌≢◌, ◌==◌, ℕ, suc, Bool, true, false, cond, List, [], ◌∷◌, find, refl, sym, ap, subst, ◌∙◌, All, Contains, Option, Some, None, Bor, MatchOption, arith}
use Rattle.std.specs.Option.{option_copied}
use Rattle.std.proofs.lemmas.Bool.{false≢true}
use Rattle.std.proofs.lemmas.Bool.Decides.{Decides-eqb}
use Rattle.std.proofs.lemmas.Option.{none-some, same_Some}
use Rattle.std.proofs.lemmas.List.Elements.{All-nil, All-cons, All-weaker}
use Rattle.sc_record.specs.declared.slice.SliceId.{SliceId}
use Rattle.sc_cluster.specs.declared.slice.Slice.{Slice}

-- what is found is in the list and passes
find-found : {A : Type 0} (p : A → Bool) (xs : List A) (x : A) → find p xs ≡ Some x → Contains xs x × (p x ≡ true)
find-found p [] x found = absurd (none-some x found)
find-found {A} p (y ∷ ys) x found = by (p y) refl found (find-found p ys x) where
  by : (t : Bool) → p y ≡ t → cond {A = Option A} t (Some y) (find p ys) ≡ Some x → (find p ys ≡ Some x → Contains ys x × (p x ≡ true))
      → Contains (y ∷ ys) x × (p x ≡ true)
  by true passes is rest = let same : y ≡ x = same_Some y x is in ((0, omega arith, same), ap p (sym same) ∙ passes)
  by false fails is rest = let later = rest is in ((suc later.0.0, omega (arith, later.0.1), later.0.2), later.1)

-- where none is found, none passes
find-none : {A : Type 0} (p : A → Bool) (xs : List A) → find p xs ≡ None → All (λ x. p x ≡ false) xs
find-none p [] none = All-nil (λ x. p x ≡ false)
find-none {A} p (y ∷ ys) none = by (p y) refl none (find-none p ys) where
  by : (t : Bool) → p y ≡ t → cond {A = Option A} t (Some y) (find p ys) ≡ None → (find p ys ≡ None → All (λ x. p x ≡ false) ys)
      → All (λ x. p x ≡ false) (y ∷ ys)
  by true passes is rest = cc
  by false fails is rest = All-cons (λ x. p x ≡ false) y ys fails (rest is)

-- the slice has this id
abbrev pub has_id : SliceId → Slice → Bool
has_id id slice = slice.id.0 == id.0

same_id : (a b : SliceId) → a.0 ≡ b.0 → a ≡ b
same_id a b same = let make : ℕ → SliceId = λ n. record { 0 = n } in ap make same

pub slice_from_find : (slices : List Slice) (id : SliceId) (found : Option (Bor Slice)) → option_copied found ≡ find (has_id id) slices
    → MatchOption found (All (λ (slice : Slice). slice.id ≢ id) slices) (λ slice. Contains slices slice.now × (slice.now.id ≡ id))
slice_from_find slices id None is =
    All-weaker (λ slice. has_id id slice ≡ false) (λ (slice : Slice). slice.id ≢ id) other slices (find-none (has_id id) slices (sym is))
  where
    other : (slice : Slice) → has_id id slice ≡ false → slice.id ≢ id
    other slice fails same = false≢true (sym fails ∙ (Decides-eqb slice.id.0 id.0).1 (ap (λ (one : SliceId). one.0) same))
slice_from_find slices id (Some slice) is =
    let found = find-found (has_id id) slices slice.now (sym is) in
    (found.0, same_id slice.now.id id ((Decides-eqb slice.now.id.0 id.0).0 found.1))

-- and where it is found
pub found_is : (slices : List Slice) (id : SliceId) (found : Option (Bor Slice)) (slice : Bor Slice)
    → MatchOption found (All (λ (s : Slice). s.id ≢ id) slices) (λ s. Contains slices s.now × (s.now.id ≡ id)) → found ≡ Some slice
    → Contains slices slice.now × (slice.now.id ≡ id)
found_is slices id found slice ends is =
    subst (λ r. MatchOption r (All (λ (s : Slice). s.id ≢ id) slices) (λ s. Contains slices s.now × (s.now.id ≡ id))) is ends
