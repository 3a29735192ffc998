-- The order of writes by their ids, as a merge tests it.
use Rattle.std.proofs.Common.{◌≡◌, true, false, true≢false, List, [], ◌∷◌, map, refl, sym, ap, ◌∙◌, Ordering, Less, Equal, Greater, is_le, is_lt, is_gt, nat_cmp, IsPermutation}
use Rattle.std.specs.Cmp.Lexicographic.{slice_cmp}
use Rattle.std.specs.List.{AllByRecursion}
use Rattle.std.specs.Ordering.{ordering_reverse}
use Rattle.std.proofs.lemmas.Cmp.{nat_list_cmp_total, upto}
use Rattle.std.proofs.lemmas.List.Sorted.{ranks_by, sorted_far}
use Rattle.std.proofs.lemmas.Map.Keys.{sorted_head, sorted_tail}
use Rattle.sc_record.specs.Writes.{Write, AscendById}
use Rattle.sc_finding.specs.Lists.{SortsById}
use Rattle.sc_finding.specs.Merging.{AscendsBy, goes_before}
use Rattle.sc_finding.proofs.MergeLemmas.{IsOrder, sorted-from_ascends, ascends-from_far}

le-other : (o : Ordering) → is_le (ordering_reverse o) ≡ false → is_le o ≡ true
le-other Less h = refl
le-other Equal h = refl
le-other Greater h = absurd (true≢false h)

not_gt-le : (o : Ordering) → is_le o ≡ true → is_gt o ≡ false
not_gt-le Less h = refl
not_gt-le Equal h = refl
not_gt-le Greater h = absurd (true≢false (sym h))

-- an order that is not above
pub le-not_gt : (o : Ordering) → is_gt o ≡ false → is_le o ≡ true
le-not_gt Less h = refl
le-not_gt Equal h = refl
le-not_gt Greater h = absurd (true≢false h)

not_lt-le : (o : Ordering) → is_le (ordering_reverse o) ≡ true → is_lt o ≡ false
not_lt-le Less h = absurd (true≢false (sym h))
not_lt-le Equal h = refl
not_lt-le Greater h = refl

le-not_lt : (o : Ordering) → is_lt o ≡ false → is_le (ordering_reverse o) ≡ true
le-not_lt Less h = absurd (true≢false h)
le-not_lt Equal h = refl
le-not_lt Greater h = refl

pub by_id-order : IsOrder goes_before
by_id-order = record {
  either = λ x y h. le-other (slice_cmp nat_cmp y.id x.id) (sym (ap is_le (nat_list_cmp_total.antisymm x.id y.id)) ∙ h);
  chain = λ x y z h k. le-not_gt (slice_cmp nat_cmp x.id z.id) (upto nat_list_cmp_total x.id y.id z.id
      (not_gt-le (slice_cmp nat_cmp x.id y.id) h) (not_gt-le (slice_cmp nat_cmp y.id z.id) k));
}

heads : (w : Write) (ws : List Write) → AllByRecursion (λ other. slice_cmp nat_cmp w.id other ≡ Less) (map (λ (x : Write). x.id) ws)
    → AllByRecursion (λ (x : Write). goes_before w x ≡ true) ws
heads w [] all = tt
heads w (x ∷ ws) all = (ap is_le all.0, heads w ws all.1)

pub ascends-by_id : (ws : List Write) → AscendById ws → AscendsBy goes_before ws
ascends-by_id [] ascend = tt
ascends-by_id (w ∷ ws) ascend = (
  heads w ws (sorted_head (slice_cmp nat_cmp) w.id (map (λ (x : Write). x.id) ws) ascend),
  ascends-by_id ws (sorted_tail (slice_cmp nat_cmp) w.id (map (λ (x : Write). x.id) ws) ascend),
)

pub in_order : (all sorted : List Write) → IsPermutation all sorted → AscendsBy goes_before sorted → SortsById all sorted
in_order all sorted moved up = record {
  same = moved;
  ascend = sorted-from_ascends goes_before (λ (x y : Write). is_lt (slice_cmp nat_cmp x.id y.id))
      (λ x y h. not_lt-le (slice_cmp nat_cmp y.id x.id) (sym (ap is_le (nat_list_cmp_total.antisymm x.id y.id)) ∙ h)) sorted up;
}

pub ascends-in_order : (all sorted : List Write) → SortsById all sorted → AscendsBy goes_before sorted
ascends-in_order all sorted order =
    ascends-from_far goes_before (λ (x y : Write). is_lt (slice_cmp nat_cmp x.id y.id))
    (λ x y h. ap is_le (nat_list_cmp_total.antisymm x.id y.id) ∙ le-not_lt (slice_cmp nat_cmp y.id x.id) h) sorted
    (sorted_far (λ (x y : Write). is_lt (slice_cmp nat_cmp x.id y.id)) (ranks_by nat_list_cmp_total (λ (w : Write). w.id)) sorted order.ascend)
