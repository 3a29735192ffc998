-- Rows whose ids ascend: which ids are below a row's, and which above.
use Rattle.std.proofs.Common.{◌≡◌, ℕ, zero, suc, ◌+◌, ◌-◌, List, [], ◌∷◌, ◌++◌, false, map, take, drop, slice_get, Some, None, refl, sym, ap, subst, ◌∙◌, arith}
use Rattle.std.proofs.lemmas.Cmp.{nat_list_cmp_total}
use Rattle.std.proofs.lemmas.List.{drop_more}
use Rattle.std.proofs.lemmas.Option.{slice_get_within, get_or_from_slice_get}
use Rattle.std.proofs.lemmas.Slice.Eq.{bytes_eq-Decides}
use Rattle.std.specs.Cmp.Lexicographic.{slice_cmp, texts_ties}
use Rattle.std.specs.List.{AllByRecursion}
use Rattle.std.specs.List.Sorted.{IsStrictlySortedBy}
use Rattle.std.specs.Ordering.{nat_cmp, is_eq, ordering_reverse}
use Rattle.std.specs.Str.{bytes_eq}
use Rattle.std.specs.declared.cmp.Ordering.{Ordering}
use Rattle.std.specs.declared.cmp.Ordering.TheVariants.{Less, Equal, Greater}
use Rattle.sc_record.specs.Writes.{Write, write_of, AscendById}
use Rattle.sc_snapshot.specs.Edits.{AreBelow, AreAbove, IsPlace}
use Rattle.sc_snapshot.proofs.ChangeLemmas.{take-next}

-- ---- how ids compare
abbrev pub order : List ℕ → List ℕ → Ordering
order one other = slice_cmp nat_cmp one other

pub order-back : (x y : List ℕ) (o : Ordering) → order x y ≡ o → order y x ≡ ordering_reverse o
order-back x y o h = nat_list_cmp_total.antisymm y x ∙ ap ordering_reverse h

pub below-below : (x y z : List ℕ) → order x y ≡ Less → order y z ≡ Less → order x z ≡ Less
below-below x y z one other = nat_list_cmp_total.trans x y z one other

-- ids that compare equal are one id
pub one_id : (x y : List ℕ) → order x y ≡ Equal → x ≡ y
one_id x y h = (bytes_eq-Decides x y).0 (texts_ties x y ∙ ap is_eq h)

-- a lower id is another id
pub lower_id : (x y : List ℕ) → order x y ≡ Less → bytes_eq x y ≡ false
lower_id x y h = texts_ties x y ∙ ap is_eq h

-- a higher id is another id
pub higher_id : (x y : List ℕ) → order y x ≡ Less → bytes_eq x y ≡ false
higher_id x y h = texts_ties x y ∙ ap is_eq (order-back y x Less h)

-- ---- what holds of each
module _ {X : Type 0} where
  pub each-weaker : (P Q : X → Type 0) (xs : List X) → ((x : X) → P x → Q x) → AllByRecursion P xs → AllByRecursion Q xs
  each-weaker P Q [] weaker all = tt
  each-weaker P Q (x ∷ xs) weaker all = (weaker x all.0, each-weaker P Q xs weaker all.1)

  pub each-append : (P : X → Type 0) (xs ys : List X) → AllByRecursion P xs → AllByRecursion P ys → AllByRecursion P (xs ++ ys)
  each-append P [] ys one other = other
  each-append P (x ∷ xs) ys one other = (one.0, each-append P xs ys one.1 other)

  pub each-take : (P : X → Type 0) (n : ℕ) (xs : List X) → AllByRecursion P xs → AllByRecursion P (take n xs)
  each-take P zero xs all = tt
  each-take P (suc n) [] all = tt
  each-take P (suc n) (x ∷ xs) all = (all.0, each-take P n xs all.1)

  pub each-drop : (P : X → Type 0) (n : ℕ) (xs : List X) → AllByRecursion P xs → AllByRecursion P (drop n xs)
  each-drop P zero xs all = all
  each-drop P (suc n) [] all = tt
  each-drop P (suc n) (x ∷ xs) all = each-drop P n xs all.1

  pub each-at : (P : X → Type 0) (xs : List X) (at : ℕ) (x : X) → AllByRecursion P xs → slice_get xs at ≡ Some x → P x
  each-at P [] at x all is = cc
  each-at P (y ∷ xs) zero x all is = let same : y ≡ x = cc in subst P same all.0
  each-at P (y ∷ xs) (suc at) x all is = each-at P xs at x all.1 is

-- ---- rows whose ids ascend
abbrev pub Ascend : List Write → Type 0
Ascend [] = Unit {0}
Ascend (row ∷ rows) = AreAbove row.id rows × Ascend rows

-- their ids
abbrev ids : List Write → List (List ℕ)
ids rows = map (λ (row : Write). row.id) rows

above-from_ids : (id : List ℕ) (rows : List Write) → AllByRecursion (λ other. order id other ≡ Less) (ids rows) → AreAbove id rows
above-from_ids id [] all = tt
above-from_ids id (row ∷ rows) all = (all.0, above-from_ids id rows all.1)

above-to_ids : (id : List ℕ) (rows : List Write) → AreAbove id rows → AllByRecursion (λ other. order id other ≡ Less) (ids rows)
above-to_ids id [] all = tt
above-to_ids id (row ∷ rows) all = (all.0, above-to_ids id rows all.1)

pub ascend-from : (rows : List Write) → AscendById rows → Ascend rows
unfolding IsStrictlySortedBy
ascend-from [] ascend = tt
ascend-from (row ∷ rows) ascend = (above-from_ids row.id rows ascend.0, ascend-from rows ascend.1)

pub ascend-to : (rows : List Write) → Ascend rows → AscendById rows
unfolding IsStrictlySortedBy
ascend-to [] ascend = tt
ascend-to (row ∷ rows) ascend = (above-to_ids row.id rows ascend.0, ascend-to rows ascend.1)

pub ascend-take : (n : ℕ) (rows : List Write) → Ascend rows → Ascend (take n rows)
ascend-take zero rows ascend = tt
ascend-take (suc n) [] ascend = tt
ascend-take (suc n) (row ∷ rows) ascend =
    (each-take (λ (other : Write). order row.id other.id ≡ Less) n rows ascend.0, ascend-take n rows ascend.1)

pub ascend-drop : (n : ℕ) (rows : List Write) → Ascend rows → Ascend (drop n rows)
ascend-drop zero rows ascend = ascend
ascend-drop (suc n) [] ascend = tt
ascend-drop (suc n) (row ∷ rows) ascend = ascend-drop n rows ascend.1

-- a write between what is below it and what is above it
pub ascend-join : (front : List Write) (write : Write) (back : List Write) → Ascend front → AreBelow write.id front → Ascend (write ∷ back)
    → Ascend (front ++ write ∷ back)
ascend-join [] write back ascend below rest = rest
ascend-join (row ∷ front) write back ascend below rest = (
  each-append (λ (other : Write). order row.id other.id ≡ Less) front (write ∷ back) ascend.0 (
    below.0,
    each-weaker (λ (other : Write). order write.id other.id ≡ Less) (λ (other : Write). order row.id other.id ≡ Less) back
        (λ other h. below-below row.id write.id other.id below.0 h) rest.0,
  ),
  ascend-join front write back ascend.1 below.1 rest,
)

-- ---- a row among them
-- the rows before a row are below it
pub before-at : (rows : List Write) (at : ℕ) (row : Write) → Ascend rows → slice_get rows at ≡ Some row → AreBelow row.id (take at rows)
before-at [] at row ascend is = cc
before-at (first ∷ rows) zero row ascend is = tt
before-at (first ∷ rows) (suc at) row ascend is =
    (each-at (λ (other : Write). order first.id other.id ≡ Less) rows at row ascend.0 is, before-at rows at row ascend.1 is)

-- the rows after a row are above it
pub after-at : (rows : List Write) (at : ℕ) (row : Write) → Ascend rows → slice_get rows at ≡ Some row → AreAbove row.id (drop (suc at) rows)
after-at [] at row ascend is = cc
after-at (first ∷ rows) zero row ascend is =
    let same : first ≡ row = cc in subst (λ (other : Write). AreAbove other.id rows) same ascend.0
after-at (first ∷ rows) (suc at) row ascend is = after-at rows at row ascend.1 is

-- what is below a lower id is below the higher one
pub below-higher : (low high : List ℕ) (rows : List Write) → order low high ≡ Less → AreBelow low rows → AreBelow high rows
below-higher low high rows h all =
    each-weaker (λ (row : Write). order row.id low ≡ Less) (λ (row : Write). order row.id high ≡ Less) rows
    (λ row below. below-below row.id low high below h) all

-- what is above a higher id is above the lower one
pub above-lower : (low high : List ℕ) (rows : List Write) → order low high ≡ Less → AreAbove high rows → AreAbove low rows
above-lower low high rows h all =
    each-weaker (λ (row : Write). order high row.id ≡ Less) (λ (row : Write). order low row.id ≡ Less) rows
    (λ row above. below-below low high row.id h above) all

-- an id that none of the rows has has no write
pub none_of : (id : List ℕ) (rows : List Write) → AllByRecursion (λ (row : Write). bytes_eq row.id id ≡ false) rows → write_of rows id ≡ None
none_of id [] all = refl
none_of id (row ∷ rows) all = rw all.0 (none_of id rows all.1)

pub none_below : (id : List ℕ) (rows : List Write) → AreBelow id rows → write_of rows id ≡ None
none_below id rows all =
    none_of id rows (each-weaker (λ (row : Write). order row.id id ≡ Less) (λ (row : Write). bytes_eq row.id id ≡ false) rows
    (λ row h. lower_id row.id id h) all)

pub none_above : (id : List ℕ) (rows : List Write) → AreAbove id rows → write_of rows id ≡ None
none_above id rows all =
    none_of id rows (each-weaker (λ (row : Write). order id row.id ≡ Less) (λ (row : Write). bytes_eq row.id id ≡ false) rows
    (λ row h. higher_id row.id id h) all)

-- rows of one id are none of another
pub none_there : (id other : List ℕ) (rows : List Write) → bytes_eq other id ≡ false → AllByRecursion (λ (row : Write). row.id ≡ other) rows
    → write_of rows id ≡ None
none_there id other rows apart all =
    none_of id rows (each-weaker (λ (row : Write). row.id ≡ other) (λ (row : Write). bytes_eq row.id id ≡ false) rows
    (λ row same. ap (λ (x : List ℕ). bytes_eq x id) same ∙ apart) all)

-- ---- halving
module _ (rows : List Write) (ascend : AscendById rows) (at : ℕ) (row : Write) (is : slice_get rows at ≡ Some row) (id : List ℕ) where
  -- the rows up to a lower one are lower
  pub below-more : order row.id id ≡ Less → AreBelow id (take (at + 1) rows)
  below-more h =
      subst (AreBelow id) (sym (take-next rows at row is))
      (each-append (λ (other : Write). order other.id id ≡ Less) (take at rows) (row ∷ [])
      (below-higher row.id id (take at rows) h (before-at rows at row (ascend-from rows ascend) is)) (h, tt))

  -- the rows after a row
  after-next : AreAbove row.id (drop (at + 1) rows)
  after-next =
      subst (λ n. AreAbove row.id (drop n rows)) (let more : suc at ≡ at + 1 = omega arith in more)
      (after-at rows at row (ascend-from rows ascend) is)

  drop-is : drop at rows ≡ row ∷ drop (at + 1) rows
  drop-is =
      drop_more rows at row (slice_get_within rows at row is)
      ∙ ap (λ (other : Write). other ∷ drop (at + 1) rows) (get_or_from_slice_get rows at row row is)

  -- the rows from a higher one on are higher
  pub above-more : order row.id id ≡ Greater → AreAbove id (drop at rows)
  above-more h =
      let low : order id row.id ≡ Less = order-back row.id id Greater h in
      subst (AreAbove id) (sym drop-is) (low, above-lower id row.id (drop (at + 1) rows) low after-next)

  -- a row of the id is its place
  pub place-found : order row.id id ≡ Equal → IsPlace rows at (at + 1) id
  place-found h =
      let same : row.id ≡ id = one_id row.id id h in
      record {
        before = subst (λ (x : List ℕ). AreBelow x (take at rows)) same (before-at rows at row (ascend-from rows ascend) is);
        there = subst (AllByRecursion (λ (other : Write). other.id ≡ id)) (sym taken) (same, tt);
        after = subst (λ (x : List ℕ). AreAbove x (drop (at + 1) rows)) same after-next;
      }
    where
      taken : take (at + 1 - at) (drop at rows) ≡ row ∷ []
      taken =
          ap (λ n. take n (drop at rows)) (let one : at + 1 - at ≡ suc 0 = omega arith in one)
          ∙ ap (take (suc 0)) drop-is

-- between lower and higher rows there is a place
pub place-between : (rows : List Write) (low high : ℕ) (id : List ℕ) → low ≡ high → AreBelow id (take low rows) → AreAbove id (drop high rows)
    → IsPlace rows low low id
place-between rows low high id same below above = record {
  before = below;
  there = subst (AllByRecursion (λ (other : Write). other.id ≡ id)) (ap (λ n. take n (drop low rows)) (let none : 0 ≡ low - low = omega arith in none)) tt;
  after = subst (λ n. AreAbove id (drop n rows)) (sym same) above;
}
