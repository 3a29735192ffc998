-- The entries of an index in the order of their keys: the same entries, which a sort gives too where no two keys are equal.
use Rattle.std.proofs.Common.{◌≡◌, ℕ, ◌+◌, ◌<◌, suc, Bool, true, false, cond, true≢false, List, [], ◌∷◌, length, Contains, ⊎_elim, Some, IsPermutation, IsSortedBy, refl, sym, ap, subst, ◌∙◌, arith}
use Rattle.std.proofs.lemmas.Cmp.{eq_by_cmp_equiv, tied_itself}
use Rattle.std.proofs.lemmas.List.{get_or-map}
use Rattle.std.proofs.lemmas.List.Sorted.{IsPermutation-refl, IsPermutation-cons, IsPermutation-swap, IsPermutation-trans, IsPermutation-sym, IsPermutation-map, Contains-permutation, length_permutation}
use Rattle.std.proofs.lemmas.Map.Entries.{length-keys_of}
use Rattle.std.proofs.lemmas.Map.Keys.{sorted_head, sorted_tail, sorted_from_all_adjacent, IsDistinct-head, IsDistinct-tail, IsDistinct-IsPermutation, IsDistinct-from_sorted, apart_from_distinct}
use Rattle.std.specs.Cmp.{IsTotalOrder}
use Rattle.std.specs.List.{AllByRecursion, IsDistinct}
use Rattle.std.specs.List.Sorted.{IsStrictlySortedBy}
use Rattle.std.specs.Map.{keys_of, lookup}
use Rattle.std.specs.Ordering.{is_eq, is_lt, is_gt, eq_by_cmp, ordering_reverse}
use Rattle.std.specs.declared.cmp.Ordering.{Ordering}
use Rattle.std.specs.declared.cmp.Ordering.TheVariants.{Less, Equal, Greater}
use Rattle.sc_segment.proofs.MembersLemmas.{Contains-cases, Equal-from_is_eq}
use Rattle.sc_segment.proofs.FilingLemmas.{keys_of-entries_of}
use Rattle.sc_segment.specs.Filing.{FilesRow, filed_entries, put_in_order, posting_rows, sorted_entries}
use Rattle.sc_segment.specs.declared.tally.Posting.{Posting}
use Rattle.sc_segment.specs.declared.tally.Tally.{Tally}

-- two tests that don't pass together, in either order
turned : {A : Type 0} (s t : Bool) (a b c : A) → (s ≡ true → t ≡ true → ⊥) → cond s a (cond t b c) ≡ cond t b (cond s a c)
turned true true a b c apart = absurd (apart refl refl)
turned true false a b c apart = refl
turned false true a b c apart = refl
turned false false a b c apart = refl

module _ {K : Type 0} {order : K → K → Ordering} (o : IsTotalOrder order) where
  abbrev Entry : Type 0
  Entry = K × List ℕ

  -- ---- the same entries
  permutes-put : (e : Entry) (es : List Entry) → IsPermutation (e ∷ es) (put_in_order order e es)
  permutes-put e [] = IsPermutation-refl (e ∷ [])
  permutes-put e (f ∷ es) = by (order e.0 f.0) (permutes-put e es)
    where
      by : (r : Ordering) → IsPermutation (e ∷ es) (put_in_order order e es) → IsPermutation (e ∷ f ∷ es) (cond (is_gt r) (f ∷ put_in_order order e es) (e ∷ f ∷ es))
      by Less rest = IsPermutation-refl (e ∷ f ∷ es)
      by Equal rest = IsPermutation-refl (e ∷ f ∷ es)
      by Greater rest = IsPermutation-trans (e ∷ f ∷ es) (f ∷ e ∷ es) (f ∷ put_in_order order e es)
          (IsPermutation-swap (e ∷ f ∷ es) (f ∷ e ∷ es) 0 1 (omega arith) (omega arith) refl)
          (IsPermutation-cons f (e ∷ es) (put_in_order order e es) rest)

  permutes-sorted : (es : List Entry) → IsPermutation es (sorted_entries order es)
  permutes-sorted [] = IsPermutation-refl []
  permutes-sorted (e ∷ es) = IsPermutation-trans (e ∷ es) (e ∷ sorted_entries order es) (put_in_order order e (sorted_entries order es))
      (IsPermutation-cons e es (sorted_entries order es) (permutes-sorted es)) (permutes-put e (sorted_entries order es))

  lookup-put : (q : K) (e : Entry) (es : List Entry) → lookup (λ k. is_eq (order q k)) (put_in_order order e es)
      ≡ cond (is_eq (order q e.0)) (Some e.1) (lookup (λ k. is_eq (order q k)) es)
  lookup-put q e [] = refl
  lookup-put q e (f ∷ es) = by (order e.0 f.0) refl (lookup-put q e es)
    where
      by : (r : Ordering) → order e.0 f.0 ≡ r → lookup (eq_by_cmp order q) (put_in_order order e es) ≡ cond (eq_by_cmp order q e.0) (Some e.1) (lookup (eq_by_cmp order q) es)
          → lookup (eq_by_cmp order q) (cond (is_gt r) (f ∷ put_in_order order e es) (e ∷ f ∷ es)) ≡ cond (eq_by_cmp order q e.0) (Some e.1) (cond (eq_by_cmp order q f.0) (Some f.1) (lookup (eq_by_cmp order q) es))
      by Less is rest = refl
      by Equal is rest = refl
      by Greater is rest =
          ap (λ found. cond (eq_by_cmp order q f.0) (Some f.1) found) rest
          ∙ turned (eq_by_cmp order q f.0) (eq_by_cmp order q e.0) (Some f.1) (Some e.1) (lookup (eq_by_cmp order q) es) (λ here there.
          let at_f : order q f.0 ≡ Equal = Equal-from_is_eq (order q f.0) here in
          let at_e : order q e.0 ≡ Equal = Equal-from_is_eq (order q e.0) there in
          let both : order q f.0 ≡ order e.0 f.0 = o.congr q e.0 f.0 at_e in
          cc)

  -- a key has the same rows
  pub lookup-sorted : (q : K) (es : List Entry) → lookup (λ k. is_eq (order q k)) (sorted_entries order es) ≡ lookup (λ k. is_eq (order q k)) es
  lookup-sorted q [] = refl
  lookup-sorted q (e ∷ es) = lookup-put q e (sorted_entries order es) ∙ ap (λ found. cond (is_eq (order q e.0)) (Some e.1) found) (lookup-sorted q es)

  -- a row that is filed among entries is filed among the sorted ones
  pub FilesRow-sorted : (row : ℕ) (key : K) (old new : List Entry) → FilesRow order row key old new → FilesRow order row key (sorted_entries order old) (sorted_entries order new)
  FilesRow-sorted row key old new filed = record {
    lists = λ q. rw (lookup-sorted q new, lookup-sorted key old, lookup-sorted q old) (filed.lists q);
    size = rw (length_permutation new (sorted_entries order new) (permutes-sorted new), length_permutation old (sorted_entries order old) (permutes-sorted old), lookup-sorted key old) filed.size;
  }

  -- ---- in order
  strict-nil : IsStrictlySortedBy order []
  unfolding IsStrictlySortedBy
  strict-nil = tt

  strict-cons : (k : K) (ks : List K) → AllByRecursion (λ m. order k m ≡ Less) ks → IsStrictlySortedBy order ks → IsStrictlySortedBy order (k ∷ ks)
  unfolding IsStrictlySortedBy
  strict-cons k ks all up = (all, up)

  keys-put : (P : K → Type 0) (e : Entry) (es : List Entry) → P e.0 → AllByRecursion P (keys_of es) → AllByRecursion P (keys_of (put_in_order order e es))
  keys-put P e [] here all = (here, tt)
  keys-put P e (f ∷ es) here all = by (order e.0 f.0) (keys-put P e es here all.1)
    where
      by : (r : Ordering) → AllByRecursion P (keys_of (put_in_order order e es)) → AllByRecursion P (keys_of (cond (is_gt r) (f ∷ put_in_order order e es) (e ∷ f ∷ es)))
      by Less rest = (here, all)
      by Equal rest = (here, all)
      by Greater rest = (all.0, rest)

  keys-sorted : (P : K → Type 0) (es : List Entry) → AllByRecursion P (keys_of es) → AllByRecursion P (keys_of (sorted_entries order es))
  keys-sorted P [] all = tt
  keys-sorted P (e ∷ es) all = keys-put P e (sorted_entries order es) all.0 (keys-sorted P es all.1)

  below_all : (x y : K) (ks : List K) → order x y ≡ Less → AllByRecursion (λ k. order y k ≡ Less) ks → AllByRecursion (λ k. order x k ≡ Less) ks
  below_all x y [] less all = tt
  below_all x y (k ∷ ks) less all = (o.trans x y k less all.0, below_all x y ks less all.1)

  strict-put : (e : Entry) (es : List Entry) → IsStrictlySortedBy order (keys_of es) → AllByRecursion (λ k. eq_by_cmp order e.0 k ≡ false) (keys_of es)
      → IsStrictlySortedBy order (keys_of (put_in_order order e es))
  strict-put e [] up apart = strict-cons e.0 [] tt strict-nil
  strict-put e (f ∷ es) up apart = by (order e.0 f.0) refl (strict-put e es (sorted_tail order f.0 (keys_of es) up) apart.1)
    where
      by : (r : Ordering) → order e.0 f.0 ≡ r → IsStrictlySortedBy order (keys_of (put_in_order order e es))
          → IsStrictlySortedBy order (keys_of (cond (is_gt r) (f ∷ put_in_order order e es) (e ∷ f ∷ es)))
      by Less is rest = strict-cons e.0 (f.0 ∷ keys_of es) (is, below_all e.0 f.0 (keys_of es) is (sorted_head order f.0 (keys_of es) up)) up
      by Equal is rest = absurd (true≢false (sym (ap is_eq is) ∙ apart.0))
      by Greater is rest = strict-cons f.0 (keys_of (put_in_order order e es))
          (keys-put (λ k. order f.0 k ≡ Less) e es (o.antisymm f.0 e.0 ∙ ap ordering_reverse is) (sorted_head order f.0 (keys_of es) up)) rest

  strict-sorted : (es : List Entry) → IsDistinct (eq_by_cmp order) (keys_of es) → IsStrictlySortedBy order (keys_of (sorted_entries order es))
  strict-sorted [] apart = strict-nil
  strict-sorted (e ∷ es) apart = strict-put e (sorted_entries order es)
      (strict-sorted es (IsDistinct-tail (eq_by_cmp order) e.0 (keys_of es) apart))
      (keys-sorted (λ k. eq_by_cmp order e.0 k ≡ false) es (IsDistinct-head (eq_by_cmp order) e.0 (keys_of es) apart))

  -- ---- keys that ascend leave one order
  no_key_below_itself : (k : K) → order k k ≡ Less → ⊥
  no_key_below_itself k less = let same : order k k ≡ Equal = tied_itself o k in cc

  key_of_member : (P : K → Type 0) (es : List Entry) (x : Entry) → AllByRecursion P (keys_of es) → Contains es x → P x.0
  key_of_member P [] x all (k, within, at) = absurd (omega arith)
  key_of_member P (e ∷ es) x all has = ⊎_elim
      (λ (is : e ≡ x). subst (λ (y : Entry). P y.0) is all.0)
      (λ later. key_of_member P es x all.1 later)
      (Contains-cases e es x has)

  contains-first : (e : Entry) (es : List Entry) → Contains (e ∷ es) e
  contains-first e es = (0, omega arith, refl)

  contains-later : (e : Entry) (es : List Entry) (x : Entry) → Contains es x → Contains (e ∷ es) x
  contains-later e es x (k, within, at) = (suc k, omega arith, at)

  one_order : (xs ys : List Entry) → IsStrictlySortedBy order (keys_of xs) → IsStrictlySortedBy order (keys_of ys)
      → ((e : Entry) → Contains xs e → Contains ys e) → ((e : Entry) → Contains ys e → Contains xs e) → xs ≡ ys
  one_order [] [] up up' there back = refl
  one_order [] (y ∷ ys) up up' there back = let has = back y (contains-first y ys) in absurd (omega (arith, has.1))
  one_order (x ∷ xs) [] up up' there back = let has = there x (contains-first x xs) in absurd (omega (arith, has.1))
  one_order (x ∷ xs) (y ∷ ys) up up' there back =
      let above_x = sorted_head order x.0 (keys_of xs) up in
      let above_y = sorted_head order y.0 (keys_of ys) up' in
      let one : x ≡ y = ⊎_elim
      (λ (is : y ≡ x). sym is)
      (λ (x_later : Contains ys x). ⊎_elim
      (λ (is : x ≡ y). is)
      (λ (y_later : Contains xs y). absurd (no_key_below_itself x.0 (o.trans x.0 y.0 x.0
      (key_of_member (λ k. order x.0 k ≡ Less) xs y above_x y_later) (key_of_member (λ k. order y.0 k ≡ Less) ys x above_y x_later))))
      (Contains-cases x xs y (back y (contains-first y ys))))
      (Contains-cases y ys x (there x (contains-first x xs))) in
      let there' : (e : Entry) → Contains xs e → Contains ys e = λ e has. ⊎_elim
      (λ (is : y ≡ e). absurd (no_key_below_itself x.0 (subst (λ (f : Entry). order x.0 f.0 ≡ Less) (sym (one ∙ is)) (key_of_member (λ k. order x.0 k ≡ Less) xs e above_x has))))
      (λ (later : Contains ys e). later)
      (Contains-cases y ys e (there e (contains-later x xs e has))) in
      let back' : (e : Entry) → Contains ys e → Contains xs e = λ e has. ⊎_elim
      (λ (is : x ≡ e). absurd (no_key_below_itself y.0 (subst (λ (f : Entry). order y.0 f.0 ≡ Less) (sym (sym one ∙ is)) (key_of_member (λ k. order y.0 k ≡ Less) ys e above_y has))))
      (λ (later : Contains xs e). later)
      (Contains-cases x xs e (back e (contains-later y ys e has))) in
      let rest = one_order xs ys (sorted_tail order x.0 (keys_of xs) up) (sorted_tail order y.0 (keys_of ys) up') there' back' in
      λ i. one i ∷ rest i

  -- where no two keys are equal, a sort gives the entries in the order of their keys
  pub sorted-from_sort : (es ys : List Entry) → IsPermutation es ys → IsDistinct (eq_by_cmp order) (keys_of es) → IsStrictlySortedBy order (keys_of ys) → ys ≡ sorted_entries order es
  sorted-from_sort es ys moved apart up = one_order ys (sorted_entries order es) up (strict-sorted es apart)
      (λ e has. Contains-permutation es (sorted_entries order es) e (permutes-sorted es) (Contains-permutation ys es e (IsPermutation-sym es ys moved) has))
      (λ e has. Contains-permutation es ys e moved (Contains-permutation (sorted_entries order es) es e (IsPermutation-sym es (sorted_entries order es) (permutes-sorted es)) has))

  -- the sorted entries of keys that ascend are these keys with the same rows
  pub entries_of-sorted : (es ys : List (K × Tally)) (postings : List Posting) → IsPermutation es ys → IsStrictlySortedBy order (keys_of ys)
      → filed_entries ys postings ≡ sorted_entries order (filed_entries es postings)
  entries_of-sorted es ys postings moved up =
      let ascending : IsStrictlySortedBy order (keys_of (filed_entries ys postings)) = subst (IsStrictlySortedBy order) (sym (keys_of-entries_of ys postings)) up in
      let there = IsPermutation-map (λ (e : K × Tally). (e.0, posting_rows e.1.number postings)) es ys moved in
      let back = IsPermutation-map (λ (e : Entry). e.0) (filed_entries ys postings) (filed_entries es postings) (IsPermutation-sym (filed_entries es postings) (filed_entries ys postings) there) in
      let apart = IsDistinct-IsPermutation (eq_by_cmp order) (eq_by_cmp_equiv o).symm (keys_of (filed_entries ys postings)) (keys_of (filed_entries es postings)) back
      (IsDistinct-from_sorted order (keys_of (filed_entries ys postings)) ascending) in
      sorted-from_sort (filed_entries es postings) (filed_entries ys postings) there apart ascending

-- ---- a sort of keys with any values
module _ {K V : Type 0} {order : K → K → Ordering} (o : IsTotalOrder order) where
  -- no two keys are equal after a sort
  pub distinct-moved : (es ys : List (K × V)) → IsPermutation es ys → IsDistinct (eq_by_cmp order) (keys_of es) → IsDistinct (eq_by_cmp order) (keys_of ys)
  distinct-moved es ys moved apart = IsDistinct-IsPermutation (eq_by_cmp order) (eq_by_cmp_equiv o).symm (keys_of es) (keys_of ys) (IsPermutation-map (λ (e : K × V). e.0) es ys moved) apart

  -- where no two keys are equal, a sort leaves keys that ascend
  pub strict-from_sort : (es : List (K × V)) → IsDistinct (eq_by_cmp order) (keys_of es) → IsSortedBy (λ a b. is_lt (order a.0 b.0)) es → IsStrictlySortedBy order (keys_of es)
  strict-from_sort [] apart up = strict-nil o
  strict-from_sort (e ∷ es) apart up = sorted_from_all_adjacent o (keys_of (e ∷ es)) e.0 (λ k low.
      let long : length (keys_of (e ∷ es)) ≡ length (e ∷ es) = length-keys_of (e ∷ es) in
      let within : k + 1 < length (e ∷ es) = omega (arith, long, low) in
      let first = get_or-map (λ (f : K × V). f.0) (e ∷ es) k e e.0 (omega arith) in
      let next = get_or-map (λ (f : K × V). f.0) (e ∷ es) (k + 1) e e.0 within in
      let differ = apart_from_distinct (eq_by_cmp order) (keys_of (e ∷ es)) k (k + 1) e.0 apart (omega arith) low in
      less _ _ differ (rw (first, next) (up k e (omega arith) within)))
    where
      less : (x y : K) → eq_by_cmp order x y ≡ false → is_lt (order y x) ≡ false → order x y ≡ Less
      less x y differ not_below = by (order x y) refl
        where
          by : (r : Ordering) → order x y ≡ r → order x y ≡ Less
          by Less is = is
          by Equal is = absurd (true≢false (sym (ap is_eq is) ∙ differ))
          by Greater is = absurd (true≢false (sym (ap is_lt (o.antisymm y x ∙ ap ordering_reverse is)) ∙ not_below))
