-- Ranges tile another one exactly where each of them is within it, and its least number, theirs, and those after their
-- greatest ones are in one range alone: between these no range begins or ends.
use Rattle.std.proofs.Common.{◌≡◌, ℕ, zero, suc, ◌+◌, ◌≤◌, ◌<◌, Bool, true, false, cond, eqb, ℤ, pos, ◌+ℤ◌, ◌-ℤ◌, ◌≤ℤ◌, List, [], ◌∷◌, ◌++◌, length, get_or, take, IsTrue, map, unsigned_abs, refl, sym, ap, ◌∙◌, All, Contains, arith, ◌⊎◌, inl, inr}
use Rattle.std.proofs.lemmas.Int.{ints}
use Rattle.std.proofs.lemmas.List.{take_more}
use Rattle.std.proofs.lemmas.Bool.Decides.{not_from_Decides, Decides-eqb}
use Rattle.std.proofs.Math.IntN.{ℤ_discrete}
use Rattle.std.specs.Prelude.{◌↔◌}
use Rattle.std.proofs.lemmas.List.Elements.{All-head, All-tail, All-map, All-nil, All-cons, All-same, All-append, All-weaker, All-contains_itself}
use Rattle.sc_hash.specs.Range.{IsWithin}
use Rattle.sc_hash.specs.Bounds.{contains}
use Rattle.sc_hash.proofs.BoundsLemmas.{contains-Decides}
use Rattle.sc_cluster.specs.Tiles.{holders, Tiles, IsTile}
use Rattle.sc_cluster.proofs.CountLemmas.{count_by-cons, count_by-none}
use Rattle.sc_cluster.proofs.ItemLemmas.{count_by-positive}
use Rattle.sc_cluster.proofs.ListLemmas.{Contains-map}

-- a range that neither ends before a number nor begins at it has both or neither
contains-next : (h low high : ℤ) → (high ≡ h → ⊥) → (low ≡ h +ℤ pos 1 → ⊥) → contains (h +ℤ pos 1) (low, high) ≡ contains h (low, high)
contains-next h low high ends begins = grind (arith, ints)

-- two numbers are the same or not
decided : (a b : ℤ) → (a ≡ b) ⊎ (a ≡ b → ⊥)
decided a b = by (ℤ_discrete a b) where
  by : Dec (a ≡ b) → (a ≡ b) ⊎ (a ≡ b → ⊥)
  by (yes same) = inl same
  by (no other) = inr other

-- the next number is in one range alone, or in as many of these as the number itself
abbrev Goes : ℤ → List (ℤ × ℤ) → List (ℤ × ℤ) → Type 0
Goes h ranges rest = (holders (h +ℤ pos 1) ranges ≡ 1) ⊎ (holders (h +ℤ pos 1) rest ≡ holders h rest)

goes : (h : ℤ) (ranges rest : List (ℤ × ℤ)) (min max : ℤ) → (h +ℤ pos 1) ≤ℤ max → All (IsTile ranges min max) rest → Goes h ranges rest
goes h ranges [] min max below tiles = inr refl
goes h ranges (range ∷ rest) min max below tiles =
    ends (decided range.1 h) (goes h ranges rest min max below (All-tail (IsTile ranges min max) range rest tiles)) where
      tile : IsTile ranges min max range
      tile = All-head (IsTile ranges min max) range rest tiles

      same : (range.1 ≡ h → ⊥) → (range.0 ≡ h +ℤ pos 1 → ⊥) → Goes h ranges rest → Goes h ranges (range ∷ rest)
      same later earlier (inl one) = inl one
      same later earlier (inr equal) =
          let here = ap {B = ℕ} (λ t. cond t 1 0) (contains-next h range.0 range.1 later earlier) in
          inr (omega (arith, count_by-cons (contains (h +ℤ pos 1)) range rest, count_by-cons (contains h) range rest))

      begins : (range.1 ≡ h → ⊥) → (range.0 ≡ h +ℤ pos 1) ⊎ (range.0 ≡ h +ℤ pos 1 → ⊥) → Goes h ranges rest → Goes h ranges (range ∷ rest)
      begins later (inl first) more = inl (ap (λ n. holders n ranges) (sym first) ∙ tile.start)
      begins later (inr earlier) more = same later earlier more

      next : range.1 ≡ h → (range.1 ≡ max) ⊎ (holders (range.1 +ℤ pos 1) ranges ≡ 1) → Goes h ranges (range ∷ rest)
      next last (inl end) = absurd (omega (arith, ints))
      next last (inr one) = inl (ap (λ n. holders (n +ℤ pos 1) ranges) (sym last) ∙ one)

      ends : (range.1 ≡ h) ⊎ (range.1 ≡ h → ⊥) → Goes h ranges rest → Goes h ranges (range ∷ rest)
      ends (inl last) more = next last tile.next
      ends (inr later) more = begins later (decided range.0 (h +ℤ pos 1)) more

-- so from the least number on each is in one range alone
each_once : (ranges : List (ℤ × ℤ)) (min max : ℤ) (k : ℕ) → holders min ranges ≡ 1 → All (IsTile ranges min max) ranges
    → (min +ℤ pos k) ≤ℤ max → holders (min +ℤ pos k) ranges ≡ 1
each_once ranges min max zero first tiles below =
    let at_first : min +ℤ pos 0 ≡ min = omega (arith, ints) in ap (λ h. holders h ranges) at_first ∙ first
each_once ranges min max (suc k) first tiles below =
    let before = each_once ranges min max k first tiles (omega (arith, ints)) in
    let at_next : min +ℤ pos (suc k) ≡ (min +ℤ pos k) +ℤ pos 1 = omega (arith, ints) in
    ap (λ h. holders h ranges) at_next ∙ by before (goes (min +ℤ pos k) ranges ranges min max (omega (arith, ints)) tiles)
  where
    by : holders (min +ℤ pos k) ranges ≡ 1 → Goes (min +ℤ pos k) ranges ranges → holders ((min +ℤ pos k) +ℤ pos 1) ranges ≡ 1
    by before (inl one) = one
    by before (inr same) = same ∙ before

-- and no other number is in any
none_outside : (ranges : List (ℤ × ℤ)) (min max h : ℤ) → All (IsTile ranges min max) ranges → ¬ IsWithin min max h → holders h ranges ≡ 0
none_outside ranges min max h tiles beyond =
    count_by-none (contains h) ranges (All-weaker (IsTile ranges min max) (λ range. contains h range ≡ false) lacks ranges tiles)
  where
    lacks : (range : ℤ × ℤ) → IsTile ranges min max range → contains h range ≡ false
    lacks range tile = by (contains h range) refl where
      by : (t : Bool) → contains h range ≡ t → t ≡ false
      by false is = refl
      by true is =
          let within = (contains-Decides h range.0 range.1).0 is in
          let low = tile.low in
          let high = tile.high in
          absurd (beyond (omega (arith, ints), omega (arith, ints)))

-- a range of a tiling is such a one
module _ (ranges : List (ℤ × ℤ)) (min max : ℤ) (range : ℤ × ℤ) (tiles : Tiles ranges min max) (there : Contains ranges range) where
  number_within : (h : ℤ) → IsWithin range.0 range.1 h → IsWithin min max h
  number_within h within =
      by (contains h (min, max)) refl (count_by-positive (contains h) ranges range there ((contains-Decides h range.0 range.1).1 within))
    where
      by : (t : Bool) → contains h (min, max) ≡ t → 1 ≤ holders h ranges → IsWithin min max h
      by true is some = (contains-Decides h min max).0 is
      by false is some =
          let none = tiles.outside h (not_from_Decides (contains h (min, max)) (contains-Decides h min max) is) in
          absurd (omega arith)

  tile_from_Tiles : range.0 ≤ℤ range.1 → IsTile ranges min max range
  tile_from_Tiles ordered =
      let least = number_within range.0 (omega (arith, ints), ordered) in
      let greatest = number_within range.1 (ordered, omega (arith, ints)) in
      record {
        low = least.0;
        high = greatest.1;
        start = tiles.inside range.0 least;
        next = by (decided range.1 max) greatest;
      }
    where
      by : (range.1 ≡ max) ⊎ (range.1 ≡ max → ⊥) → IsWithin min max range.1 → (range.1 ≡ max) ⊎ (holders (range.1 +ℤ pos 1) ranges ≡ 1)
      by (inl end) greatest = inl end
      by (inr more) greatest = inr (tiles.inside (range.1 +ℤ pos 1) (omega (arith, ints), omega (arith, ints)))

-- what the test of items by their ranges decides
abbrev pub AreTiles : {X : Type 0} → (X → ℤ × ℤ) → List X → ℤ → ℤ → Type 0
AreTiles range items min max = All (λ item. IsTile (map range items) min max (range item)) items

pub Tiles-from_items : {X : Type 0} (range : X → ℤ × ℤ) (items : List X) (min max : ℤ) → holders min (map range items) ≡ 1
    → AreTiles range items min max → Tiles (map range items) min max
Tiles-from_items range items min max first each =
    let tiles = All-map (IsTile (map range items) min max) range items each in
    record {
      inside = λ h within.
          let at : h ≡ min +ℤ pos (unsigned_abs (h -ℤ min)) = omega (arith, ints) in
          ap (λ n. holders n (map range items)) at
          ∙ each_once (map range items) min max (unsigned_abs (h -ℤ min)) first tiles (omega (arith, ints));
      outside = λ h beyond. none_outside (map range items) min max h tiles beyond;
    }

pub items_from_Tiles : {X : Type 0} (range : X → ℤ × ℤ) (items : List X) (min max : ℤ) → ((item : X) → (range item).0 ≤ℤ (range item).1)
    → Tiles (map range items) min max → AreTiles range items min max
items_from_Tiles range items min max ordered tiles =
    All-weaker (Contains items) (λ item. IsTile (map range items) min max (range item))
    (λ item there. tile_from_Tiles (map range items) min max (range item) tiles (Contains-map range items item there) (ordered item))
    items (All-contains_itself items)

-- the last of the tests that an item passes decides
pub IsTile-from_last : (ranges : List (ℤ × ℤ)) (min max : ℤ) (range : ℤ × ℤ) (b : Bool) → min ≤ℤ range.0 → range.1 ≤ℤ max
    → holders range.0 ranges ≡ 1 → (IsTrue b ↔ ((range.1 ≡ max) ⊎ (holders (range.1 +ℤ pos 1) ranges ≡ 1)))
    → IsTrue b ↔ IsTile ranges min max range
IsTile-from_last ranges min max range b low high start last =
    (λ passes. record { low = low; high = high; start = start; next = last.0 passes }, λ tile. last.1 tile.next)

-- and one more item that passes
pub AreTiles-more : {X : Type 0} (range : X → ℤ × ℤ) (items : List X) (min max : ℤ) (i : ℕ) (item : X) → i < length items
    → item ≡ get_or items i item
    → All (λ x. IsTile (map range items) min max (range x)) (take i items) → IsTile (map range items) min max (range item)
    → All (λ x. IsTile (map range items) min max (range x)) (take (i + 1) items)
AreTiles-more {X} range items min max i item below is passed here =
    let P : X → Type 0 = λ x. IsTile (map range items) min max (range x) in
    All-same P _ _ (take_more items i item below ∙ ap (λ x. take i items ++ x ∷ []) (sym is))
    (All-append P (take i items) (item ∷ []) passed (All-cons P item [] here (All-nil P)))

-- a range that does not end the whole one is followed by one exactly where the count says so
pub last_test : (a b : ℤ) (n : ℕ) {m : ℕ} → n ≡ m → (a ≡ b → ⊥) → IsTrue (eqb n 1) ↔ ((a ≡ b) ⊎ (m ≡ 1))
last_test a b n {m} counted differs = (λ test. inr (sym counted ∙ (Decides-eqb n 1).0 test), by) where
  by : (a ≡ b) ⊎ (m ≡ 1) → IsTrue (eqb n 1)
  by (inl same) = absurd (differs same)
  by (inr one) = (Decides-eqb n 1).1 (counted ∙ one)
