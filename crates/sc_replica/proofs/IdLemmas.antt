-- How ids compare.
use Rattle.std.proofs.Common.{◌≡◌, ℕ, Bool, List, true, false, refl, ap, ◌∙◌}
use Rattle.std.specs.Bool.{IsTrue}
use Rattle.std.specs.Cmp.Lexicographic.{slice_cmp, texts_ties}
use Rattle.std.specs.Ordering.{nat_cmp, is_eq, is_lt, ordering_reverse}
use Rattle.std.specs.Str.{bytes_eq}
use Rattle.std.specs.declared.cmp.Ordering.{Ordering}
use Rattle.std.specs.declared.cmp.Ordering.TheVariants.{Less, Equal, Greater}
use Rattle.std.proofs.lemmas.Cmp.{nat_list_cmp_total}
use Rattle.std.proofs.lemmas.Slice.Eq.{bytes_eq-Decides}

-- the order of two ids
abbrev pub order : List ℕ → List ℕ → Ordering
order one other = slice_cmp nat_cmp one other

-- turned round, the order is the other way round
pub order-back : (x y : List ℕ) (o : Ordering) → order x y ≡ o → order y x ≡ ordering_reverse o
order-back x y o h = nat_list_cmp_total.antisymm y x ∙ ap ordering_reverse h

-- what tests as less is less
pub tested-less : (o : Ordering) (b : Bool) → b ≡ is_lt o → IsTrue b → o ≡ Less
tested-less Less b e h = refl
tested-less Equal b e h = cc
tested-less Greater b e h = cc

-- ids that compare equal are one id
pub same-id : (x y : List ℕ) → order x y ≡ Equal → x ≡ y
same-id x y h = (bytes_eq-Decides x y).0 (texts_ties x y ∙ ap is_eq h)

-- an id is itself
pub id-itself : (x : List ℕ) → bytes_eq x x ≡ true
id-itself x = (bytes_eq-Decides x x).1 (λ i. x)

-- and compares equal with itself
pub order-itself : (x : List ℕ) → order x x ≡ Equal
order-itself x =
    elim (order x x) as (λ o. order x x ≡ o → order x x ≡ Equal) [
      | Less ↦ λ (h : order x x ≡ Less). let back : order x x ≡ Greater = order-back x x Less h in cc
      | Equal ↦ λ (h : order x x ≡ Equal). h
      | Greater ↦ λ (h : order x x ≡ Greater). let back : order x x ≡ Less = order-back x x Greater h in cc
    ] (λ i. order x x)

-- ids that test equal are one id
pub one-id : (x y : List ℕ) → bytes_eq x y ≡ true → x ≡ y
one-id x y h = (bytes_eq-Decides x y).0 h

-- a lower id is another id
pub lower-id : (x y : List ℕ) → order x y ≡ Less → bytes_eq x y ≡ false
lower-id x y h = texts_ties x y ∙ ap is_eq h

-- a higher id is another id
pub higher-id : (x y : List ℕ) → order x y ≡ Greater → bytes_eq x y ≡ false
higher-id x y h = texts_ties x y ∙ ap is_eq h
