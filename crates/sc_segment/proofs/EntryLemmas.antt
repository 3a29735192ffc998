-- An index carried over entry by entry, in the order of the keys.
use Rattle.std.proofs.Common.{◌≡◌, ℕ, zero, suc, ◌+◌, ◌<◌, ◌≤◌, ◌||◌, Bool, true, false, cond, List, [], ◌∷◌, ◌++◌, length, take, slice_get, Option, Some, None, option_map, unwrap_or, append-nil, refl, sym, ap, subst, ◌∙◌, arith}
use Rattle.std.proofs.lemmas.Cmp.{alike_right, tied_back, tied_itself}
use Rattle.std.proofs.lemmas.List.{take_all}
use Rattle.std.proofs.lemmas.List.Elements.{All-nil, All-push}
use Rattle.std.proofs.lemmas.Option.{slice_get-map}
use Rattle.std.specs.Cmp.{IsTotalOrder}
use Rattle.std.specs.declared.cmp.Ordering.{Ordering}
use Rattle.std.specs.declared.cmp.Ordering.TheVariants.{Less, Equal, Greater}
use Rattle.std.specs.List.{AllByRecursion}
use Rattle.std.specs.List.Sorted.{IsStrictlyIncreasing, IsStrictlySortedBy}
use Rattle.std.specs.Map.{keys_of, lookup}
use Rattle.std.specs.Ordering.{is_eq, ordering_reverse}
use Rattle.std.specs.Prelude.{⊤}
use Rattle.sc_keys.proofs.SearchLemmas.{in_order, lookup_agree}
use Rattle.sc_keys.proofs.StoringLemmas.{take-place}
use Rattle.sc_keys.specs.Searching.{IsGapFor}
use Rattle.sc_rows.proofs.NumberLemmas.{new_numbers-ascend}
use Rattle.sc_rows.specs.Moving.{new_numbers, KeepsOrder}
use Rattle.sc_rows.specs.declared.joining.Kept.TheVariants.{Either}
use Rattle.sc_rows.specs.Joining.{has_row, IsJoin}
use Rattle.sc_segment.proofs.IndexLemmas.{All-place}
use Rattle.sc_segment.proofs.MembersLemmas.{Equal-from_is_eq}
use Rattle.sc_segment.specs.Carrying.{IsCarriedSoFar, IsAbove, AreBefore}
use Rattle.sc_segment.specs.Index.{IsInOrder, HasRows, rows_at}

module _ {K : Type 0} {order : K → K → Ordering} (o : IsTotalOrder order) where
  -- the keys of these entries compare equal to the key
  abbrev AreEqual : K → List (K × List ℕ) → Type 0
  AreEqual key [] = ⊤
  AreEqual key (e ∷ es) = (order key e.0 ≡ Equal) × AreEqual key es

  -- the entry of a key that compares equal, none where there are no rows
  abbrev pub IsEntryFor : K → List ℕ → List (K × List ℕ) → Type 0
  IsEntryFor key rows [] = rows ≡ []
  IsEntryFor key rows (e ∷ []) = (order key e.0 ≡ Equal) × (e.1 ≡ rows) × (0 < length rows)
  IsEntryFor key rows (e ∷ f ∷ entries) = ⊥

  -- an index has the entry of a key more than before
  abbrev pub HasEntryMore : K → List ℕ → List (K × List ℕ) → List (K × List ℕ) → Type 0
  HasEntryMore key rows old new = (entry : List (K × List ℕ)) × (new ≡ old ++ entry) × IsEntryFor key rows entry

  -- ---- a key above others
  pub above-append : (key : K) (xs ys : List (K × List ℕ)) → IsAbove order key xs → IsAbove order key ys → IsAbove order key (xs ++ ys)
  above-append key [] ys a b = b
  above-append key (x ∷ xs) ys a b = (a.0, above-append key xs ys a.1 b)

  above-left : (key : K) (xs ys : List (K × List ℕ)) → IsAbove order key (xs ++ ys) → IsAbove order key xs
  above-left key [] ys a = tt
  above-left key (x ∷ xs) ys a = (a.0, above-left key xs ys a.1)

  above-right : (key : K) (xs ys : List (K × List ℕ)) → IsAbove order key (xs ++ ys) → IsAbove order key ys
  above-right key [] ys a = a
  above-right key (x ∷ xs) ys a = above-right key xs ys a.1

  -- a key that compares equal is above the same ones
  pub above-like : (q k : K) (xs : List (K × List ℕ)) → order q k ≡ Equal → IsAbove order k xs → IsAbove order q xs
  above-like q k [] equal a = tt
  above-like q k (x ∷ xs) equal a = (alike_right o q k x.0 equal ∙ a.0, above-like q k xs equal a.1)

  -- and so is a greater one
  pub above-greater : (q k : K) (xs : List (K × List ℕ)) → order k q ≡ Less → IsAbove order k xs → IsAbove order q xs
  above-greater q k [] less a = tt
  above-greater q k (x ∷ xs) less a = (o.trans x.0 k q a.0 less, above-greater q k xs less a.1)

  -- the key of the entry at a place
  pub place_of_key : (es : List (K × List ℕ)) (i : ℕ) (e : K × List ℕ) → slice_get es i ≡ Some e → slice_get (keys_of es) i ≡ Some e.0
  place_of_key es i e at = slice_get-map (λ (p : K × List ℕ). p.0) es i ∙ ap (option_map (λ (p : K × List ℕ). p.0)) at

  -- the entry whose key is at a place
  pub entry_of_key : (es : List (K × List ℕ)) (i : ℕ) (k : K) → slice_get (keys_of es) i ≡ Some k → (e : K × List ℕ) × (slice_get es i ≡ Some e) × (e.0 ≡ k)
  entry_of_key [] i k at = absurd cc
  entry_of_key (e ∷ es) zero k at = (e, refl, cc)
  entry_of_key (e ∷ es) (suc i) k at = entry_of_key es i k at

  -- a key is above the first entries where it is greater than each
  pub above-first : (key : K) (es : List (K × List ℕ)) (n : ℕ) → ((i : ℕ) (k : K) → i < n → slice_get (keys_of es) i ≡ Some k → order key k ≡ Greater) → IsAbove order key (take n es)
  above-first key [] n greater = subst (IsAbove order key) (sym (take_all n [] (omega arith))) tt
  above-first key (e ∷ es) zero greater = tt
  above-first key (e ∷ es) (suc n) greater =
      (o.antisymm e.0 key ∙ ap ordering_reverse (greater 0 e.0 (omega arith) refl), above-first key es n (λ i k before at. greater (suc i) k (omega arith) at))

  pub first-greater : (key : K) (es : List (K × List ℕ)) (n : ℕ) → IsAbove order key (take n es) → (i : ℕ) (k : K) → i < n → slice_get (keys_of es) i ≡ Some k → order key k ≡ Greater
  first-greater key [] n above i k before at = absurd cc
  first-greater key (e ∷ es) zero above i k before at = absurd (omega arith)
  first-greater key (e ∷ es) (suc n) above zero k before at =
      let same : e.0 ≡ k = cc in
      ap (order key) (sym same) ∙ o.antisymm key e.0 ∙ ap ordering_reverse above.0
  first-greater key (e ∷ es) (suc n) above (suc i) k before at = first-greater key es n above.1 i k (omega arith) at

  -- each key is above those before it
  pub above-before : (es : List (K × List ℕ)) (i : ℕ) (e : K × List ℕ) → IsStrictlySortedBy order (keys_of es) → slice_get es i ≡ Some e → IsAbove order e.0 (take i es)
  above-before es i e sorted at =
      above-first e.0 es i (λ j k before at_j. o.antisymm e.0 k ∙ ap ordering_reverse (in_order o (keys_of es) j i k e.0 sorted before at_j (place_of_key es i e at)))

  -- ---- what entries put at the end change
  not_equal : (x key : K) → order x key ≡ Less → is_eq (order key x) ≡ false
  not_equal x key less = ap is_eq (o.antisymm key x ∙ ap ordering_reverse less)

  rows_at-above : (key : K) (xs ys : List (K × List ℕ)) → IsAbove order key xs → rows_at order (xs ++ ys) key ≡ rows_at order ys key
  rows_at-above key [] ys a = refl
  rows_at-above key (x ∷ xs) ys a = rw (not_equal x.0 key a.0) (rows_at-above key xs ys a.1)

  rows_at-like : (q k : K) (es : List (K × List ℕ)) → order q k ≡ Equal → rows_at order es q ≡ rows_at order es k
  rows_at-like q k es equal =
      ap (λ r. unwrap_or r []) (lookup_agree (λ x. is_eq (order q x)) (λ x. is_eq (order k x)) (λ x. ap is_eq (o.congr q k x equal)) es)

  lookup-none : (q k : K) (ys : List (K × List ℕ)) → is_eq (order q k) ≡ false → AreEqual k ys → lookup (λ x. is_eq (order q x)) ys ≡ None
  lookup-none q k [] apart equal = refl
  lookup-none q k (y ∷ ys) apart equal =
      let here : is_eq (order q y.0) ≡ false = ap is_eq (sym (alike_right o k y.0 q equal.0)) ∙ apart in
      rw here (lookup-none q k ys apart equal.1)

  lookup-other : (q k : K) (xs ys : List (K × List ℕ)) → is_eq (order q k) ≡ false → AreEqual k ys → lookup (λ x. is_eq (order q x)) (xs ++ ys) ≡ lookup (λ x. is_eq (order q x)) xs
  lookup-other q k [] ys apart equal = lookup-none q k ys apart equal
  lookup-other q k (x ∷ xs) ys apart equal =
      ap (λ r. cond (is_eq (order q x.0)) (Some x.1) r) (lookup-other q k xs ys apart equal)

  rows_at-other : (q k : K) (xs ys : List (K × List ℕ)) → is_eq (order q k) ≡ false → AreEqual k ys → rows_at order (xs ++ ys) q ≡ rows_at order xs q
  rows_at-other q k xs ys apart equal = ap (λ r. unwrap_or r []) (lookup-other q k xs ys apart equal)

  rows_at-last : (q k : K) (xs ys : List (K × List ℕ)) → order q k ≡ Equal → IsAbove order k xs → rows_at order (xs ++ ys) q ≡ rows_at order ys k
  rows_at-last q k xs ys equal above = rows_at-above q xs ys (above-like q k xs equal above) ∙ rows_at-like q k ys equal

  -- which rows of a key are those that are carried and those that are added
  abbrev AreMembers : List (Option ℕ) → (old added new : List (K × List ℕ)) → K → ℕ → Type 0
  AreMembers moved old added new key row =
      has_row (rows_at order new key) row ≡ (has_row (new_numbers moved (rows_at order old key)) row || has_row (rows_at order added key) row)

  module _ (moved : List (Option ℕ)) (old added new olds addeds news : List (K × List ℕ)) (k : K) (above_old : IsAbove order k old) (above_added : IsAbove order k added)
      (above_new : IsAbove order k new) (equal_olds : AreEqual k olds) (equal_addeds : AreEqual k addeds) (equal_news : AreEqual k news) where
    members-step : ((q : K) (row : ℕ) → AreMembers moved old added new q row) → ((row : ℕ) → AreMembers moved olds addeds news k row)
        → (q : K) (row : ℕ) → AreMembers moved (old ++ olds) (added ++ addeds) (new ++ news) q row
    members-step before here q row = by_key (is_eq (order q k)) refl
      where
        by_key : (b : Bool) → is_eq (order q k) ≡ b → AreMembers moved (old ++ olds) (added ++ addeds) (new ++ news) q row
        by_key true is =
            let equal = Equal-from_is_eq (order q k) is in
            ap (λ (rs : List ℕ). has_row rs row) (rows_at-last q k new news equal above_new)
            ∙ here row
            ∙ ap (λ (rs : List ℕ). has_row (new_numbers moved rs) row || has_row (rows_at order addeds k) row) (sym (rows_at-last q k old olds equal above_old))
            ∙ ap (λ (rs : List ℕ). has_row (new_numbers moved (rows_at order (old ++ olds) q)) row || has_row rs row) (sym (rows_at-last q k added addeds equal above_added))
        by_key false is =
            ap (λ (rs : List ℕ). has_row rs row) (rows_at-other q k new news is equal_news)
            ∙ before q row
            ∙ ap (λ (rs : List ℕ). has_row (new_numbers moved rs) row || has_row (rows_at order added q) row) (sym (rows_at-other q k old olds is equal_olds))
            ∙ ap (λ (rs : List ℕ). has_row (new_numbers moved (rows_at order (old ++ olds) q)) row || has_row rs row) (sym (rows_at-other q k added addeds is equal_addeds))

  -- ---- the order, after an entry more
  all_less-push : (x k : K) (ks : List (K × List ℕ)) (rs : List ℕ) → AllByRecursion (λ y. order x y ≡ Less) (keys_of ks) → order x k ≡ Less
      → AllByRecursion (λ y. order x y ≡ Less) (keys_of (ks ++ (k, rs) ∷ []))
  all_less-push x k [] rs all less = (less, tt)
  all_less-push x k (e ∷ es) rs all less = (all.0, all_less-push x k es rs all.1 less)

  sorted-push : (es : List (K × List ℕ)) (k : K) (rs : List ℕ) → IsStrictlySortedBy order (keys_of es) → IsAbove order k es → IsStrictlySortedBy order (keys_of (es ++ (k, rs) ∷ []))
  unfolding IsStrictlySortedBy
  sorted-push [] k rs sorted above = (tt, tt)
  sorted-push (e ∷ es) k rs sorted above = (all_less-push e.0 k es rs sorted.0 above.0, sorted-push es k rs sorted.1 above.1)

  in_order-push : (es : List (K × List ℕ)) (e : K × List ℕ) → IsInOrder order es → IsAbove order e.0 es → HasRows e → IsInOrder order (es ++ e ∷ [])
  in_order-push es e ordered above has = record {
    keys = sorted-push es e.0 e.1 ordered.keys above;
    rows = All-push HasRows es e ordered.rows has;
  }

  -- ---- one key more is carried
  module _ (moved : List (Option ℕ)) (old added new olds addeds : List (K × List ℕ)) (k : K) (so_far : IsCarriedSoFar order moved old added new) (above_old : IsAbove order k old)
      (above_added : IsAbove order k added) (equal_olds : AreEqual k olds) (equal_addeds : AreEqual k addeds)
      (some : (q : K) → IsAbove order q olds → IsAbove order q addeds → order k q ≡ Less)
      (rows : List ℕ) (ascend : IsStrictlyIncreasing rows)
      (members : (row : ℕ) → has_row rows row ≡ (has_row (new_numbers moved (rows_at order olds k)) row || has_row (rows_at order addeds k) row)) where
    above_new : IsAbove order k new
    above_new = so_far.above k above_old above_added

    with_entry : (entry : List (K × List ℕ)) → IsEntryFor k rows entry → IsCarriedSoFar order moved (old ++ olds) (added ++ addeds) (new ++ entry)
    with_entry [] none = record {
      carried = record {
        in_order = subst (IsInOrder order) (sym (append-nil new)) so_far.carried.in_order;
        members = members-step moved old added new olds addeds [] k above_old above_added above_new equal_olds equal_addeds tt so_far.carried.members
            (λ row. ap (λ (rs : List ℕ). has_row rs row) (sym none) ∙ members row);
      };
      above = λ q a b. subst (IsAbove order q) (sym (append-nil new)) (so_far.above q (above-left q old olds a) (above-left q added addeds b));
    }
    with_entry (e ∷ []) is = record {
      carried = record {
        in_order = in_order-push new e so_far.carried.in_order (above-like e.0 k new (tied_back o k e.0 is.0) above_new)
            (rw is.1 (is.2, ascend));
        members = members-step moved old added new olds addeds (e ∷ []) k above_old above_added above_new equal_olds equal_addeds (is.0, tt) so_far.carried.members
            (λ row. ap (λ (r : Ordering). has_row (unwrap_or (cond (is_eq r) (Some e.1) None) []) row) is.0 ∙ ap (λ (rs : List ℕ). has_row rs row) is.1 ∙ members row);
      };
      above = λ q a b. above-append q new (e ∷ []) (so_far.above q (above-left q old olds a) (above-left q added addeds b))
          (o.congr e.0 k q (tied_back o k e.0 is.0) ∙ some q (above-right q old olds a) (above-right q added addeds b), tt);
    }
    with_entry (e ∷ f ∷ es) is = absurd is

    pub so_far-step : (next : List (K × List ℕ)) → HasEntryMore k rows new next → IsCarriedSoFar order moved (old ++ olds) (added ++ addeds) next
    so_far-step next more = subst (IsCarriedSoFar order moved (old ++ olds) (added ++ addeds)) (sym more.1) (with_entry more.0 more.2)

  -- nothing is carried yet
  pub so_far-start : (moved : List (Option ℕ)) → IsCarriedSoFar order moved [] [] []
  so_far-start moved = record {
    carried = record { in_order = record { keys = unfold IsStrictlySortedBy in tt; rows = All-nil HasRows }; members = λ key row. refl };
    above = λ key a b. tt;
  }

  module _ (moved : List (Option ℕ)) (keeps : KeepsOrder moved) (old : List (K × List ℕ)) (ordered : IsInOrder order old) (at : ℕ) (e : K × List ℕ) (here : slice_get old at ≡ Some e) where
    above_here : IsAbove order e.0 (take at old)
    above_here = above-before old at e ordered.keys here

    ascend_here : IsStrictlyIncreasing (new_numbers moved e.1)
    ascend_here = new_numbers-ascend moved e.1 keeps (All-place HasRows old at e ordered.rows here).1

    alone : (key : K) → order key e.0 ≡ Equal → rows_at order (e ∷ []) key ≡ e.1
    alone key equal = ap (λ (r : Ordering). unwrap_or (cond (is_eq r) (Some e.1) None) []) equal

    -- a key of the old index alone
    pub so_far-old : (before now next : List (K × List ℕ)) → IsAbove order e.0 before → IsCarriedSoFar order moved (take at old) before now
        → HasEntryMore e.0 (new_numbers moved e.1) now next → IsCarriedSoFar order moved (take (at + 1) old) before next
    so_far-old before now next above so_far more =
        subst (λ (os : List (K × List ℕ)). IsCarriedSoFar order moved os before next) (sym (take-place old at e here))
        (subst (λ (others : List (K × List ℕ)). IsCarriedSoFar order moved (take at old ++ e ∷ []) others next) (append-nil before)
        (so_far-step moved (take at old) before now (e ∷ []) [] e.0 so_far above_here above (tied_itself o e.0, tt) tt (λ q a b. a.0) (new_numbers moved e.1) ascend_here
        (λ row. sym (ap (λ (rs : List ℕ). has_row (new_numbers moved rs) row || false) (alone e.0 (tied_itself o e.0)) ∙ or_false (has_row (new_numbers moved e.1) row))) next more))
      where
        or_false : (b : Bool) → (b || false) ≡ b
        or_false true = refl
        or_false false = refl

    -- a key of both indexes
    pub so_far-both : (key : K) (added rows : List ℕ) (before now next : List (K × List ℕ)) → order key e.0 ≡ Equal → IsAbove order key before → IsCarriedSoFar order moved (take at old) before now
        → IsJoin Either (new_numbers moved e.1) added rows → HasEntryMore key rows now next → IsCarriedSoFar order moved (take (at + 1) old) (before ++ (key, added) ∷ []) next
    so_far-both key added rows before now next equal above so_far joins more =
        subst (λ (os : List (K × List ℕ)). IsCarriedSoFar order moved os (before ++ (key, added) ∷ []) next) (sym (take-place old at e here))
        (so_far-step moved (take at old) before now (e ∷ []) ((key, added) ∷ []) key so_far (above-like key e.0 (take at old) equal above_here) above (equal, tt) (tied_itself o key, tt)
        (λ q a b. b.0) rows joins.ascending
        (λ row. joins.members row
        ∙ sym (ap (λ (rs : List ℕ). has_row (new_numbers moved rs) row || has_row (rows_at order ((key, added) ∷ []) key) row) (alone key equal)
        ∙ ap (λ (r : Ordering). has_row (new_numbers moved e.1) row || has_row (unwrap_or (cond (is_eq r) (Some added) None) []) row) (tied_itself o key))) next more)

  -- a key of the added index alone
  pub so_far-added : (moved : List (Option ℕ)) (first : List (K × List ℕ)) (key : K) (added : List ℕ) (before now next : List (K × List ℕ)) → IsAbove order key first → IsAbove order key before
      → IsStrictlyIncreasing added → IsCarriedSoFar order moved first before now → HasEntryMore key added now next → IsCarriedSoFar order moved first (before ++ (key, added) ∷ []) next
  so_far-added moved first key added before now next above_first above ascend so_far more =
      subst (λ (os : List (K × List ℕ)). IsCarriedSoFar order moved os (before ++ (key, added) ∷ []) next) (append-nil first)
      (so_far-step moved first before now [] ((key, added) ∷ []) key so_far above_first above tt (tied_itself o key, tt) (λ q a b. b.0) added ascend
      (λ row. ap (λ (r : Ordering). has_row (unwrap_or (cond (is_eq r) (Some added) None) []) row) (sym (tied_itself o key))) next more)

  -- ---- the keys that follow
  -- after a key of both indexes
  pub before-both : (old : List (K × List ℕ)) (at : ℕ) (e : K × List ℕ) (key : K) (added : List ℕ) (before : List (K × List ℕ)) (from : ℕ) → IsStrictlySortedBy order (keys_of old) → slice_get old at ≡ Some e
      → order key e.0 ≡ Equal → from ≤ at → AreBefore order before old from → AreBefore order (before ++ (key, added) ∷ []) old (at + 1)
  before-both old at e key added before from sorted here equal le are = λ i f later at_i.
      let less : order e.0 f.0 ≡ Less = in_order o (keys_of old) at i e.0 f.0 sorted (omega arith) (place_of_key old at e here) (place_of_key old i f at_i) in
      above-append f.0 before ((key, added) ∷ []) (are i f (omega arith) at_i) (o.congr key e.0 f.0 equal ∙ less, tt)

  -- after a key of the added index alone
  pub before-added : (old : List (K × List ℕ)) (at : ℕ) (key : K) (added : List ℕ) (before : List (K × List ℕ)) (from : ℕ) → IsGapFor order (keys_of old) key at → from ≤ at
      → AreBefore order before old from → AreBefore order (before ++ (key, added) ∷ []) old at
  before-added old at key added before from gap le are = λ i f later at_i.
      above-append f.0 before ((key, added) ∷ []) (are i f (omega arith) at_i) (gap.after i f.0 later (place_of_key old i f at_i), tt)

  -- a greater key is above all that was passed
  pub passed-both : (old : List (K × List ℕ)) (at : ℕ) (e : K × List ℕ) (key : K) → IsStrictlySortedBy order (keys_of old) → slice_get old at ≡ Some e → order key e.0 ≡ Equal
      → (later : K) → order key later ≡ Less → IsAbove order later (take (at + 1) old)
  passed-both old at e key sorted here equal later less =
      let behind : order e.0 later ≡ Less = sym (o.congr key e.0 later equal) ∙ less in
      subst (IsAbove order later) (sym (take-place old at e here))
      (above-append later (take at old) (e ∷ []) (above-greater later e.0 (take at old) behind (above-before old at e sorted here)) (behind, tt))

  pub passed-added : (old : List (K × List ℕ)) (at : ℕ) (key : K) → IsGapFor order (keys_of old) key at → (later : K) → order key later ≡ Less → IsAbove order later (take at old)
  passed-added old at key gap later less = above-greater later key (take at old) less (above-first key old at gap.before)
