-- The tallies of keys after a row is counted, and in another order.
use Rattle.std.proofs.Common.{◌≡◌, ℕ, ◌+◌, ◌-◌, ◌<◌, ◌≤◌, ◌≢◌, Bool, true, false, ◌||◌, eqb, List, [], ◌∷◌, ◌++◌, length, set, get_or, slice_get, filter, All, ⊎_elim, IsPermutation, append-nil, Option, Some, None, le_refl, refl, sym, ap, subst, ◌∙◌, arith}
use Rattle.std.proofs.lemmas.Bool.{eq-eqb, cases_eq, cases_lt}
use Rattle.std.proofs.lemmas.List.{length_push, length-set, length-map, get_or-map, get_or_push, get_or-set_same, get_or-set_other, map-set, set-get_or}
use Rattle.std.proofs.lemmas.List.Elements.{All-nil, All-cons, All-push, All-weaker, All-map, All-filter, recursion_from_All}
use Rattle.std.proofs.lemmas.List.Folds.{list_any_at}
use Rattle.std.proofs.lemmas.List.Sorted.{IsPermutation-map, All-permutation, list_any-IsPermutation, length_permutation}
use Rattle.std.proofs.lemmas.Map.Keys.{IsDistinct-cons, IsDistinct-IsPermutation, apart_from_distinct}
use Rattle.std.proofs.lemmas.Option.{slice_get-get_or}
use Rattle.std.specs.List.{AllByRecursion, IsDistinct, list_any}
use Rattle.std.specs.List.Sorted.{IsStrictlyIncreasing}
use Rattle.sc_segment.specs.declared.tally.Posting.{Posting}
use Rattle.sc_segment.specs.declared.tally.Tally.{Tally}
use Rattle.sc_segment.specs.Filing.{AreFiled, IsTallyOf, NoRowAbove, tally_numbers, posting_of, posting_rows}
use Rattle.sc_segment.proofs.PlacingLemmas.{below_from_known, differ, rows_of-other, rows_of-own}
use Rattle.sc_segment.proofs.RowsLemmas.{increasing-push, last_below}

eqb-symm : (m n : ℕ) → eqb m n ≡ eqb n m
eqb-symm m n = ⊎_elim
    (λ (is : m ≡ n). eq-eqb m n is ∙ sym (eq-eqb n m (sym is)))
    (λ (apart : m ≢ n). differ m n apart ∙ sym (differ n m (λ is. apart (sym is))))
    (cases_eq m n)

-- nothing is filed yet
pub filed-none : AreFiled [] []
unfolding IsDistinct
filed-none = record {
  numbered = record { distinct = tt; below = All-nil (λ n. n < 0) };
  known = All-nil (λ p. list_any (λ n. eqb n p.number) [] ≡ true);
  counted = All-nil (λ t. IsTallyOf (posting_rows t.number []) t);
}

-- no two keys at two places have one number
pub apart_at : (ns : List ℕ) (i j : ℕ) → IsDistinct eqb ns → i ≢ j → i < length ns → j < length ns → eqb (get_or ns i 0) (get_or ns j 0) ≡ false
apart_at ns i j distinct apart here there = ⊎_elim
    (λ (low : i < j). apart_from_distinct eqb ns i j 0 distinct low there)
    (λ (high : j ≤ i). eqb-symm (get_or ns i 0) (get_or ns j 0) ∙ apart_from_distinct eqb ns j i 0 distinct (omega (arith, high, apart)) here)
    (cases_lt i j)

pub number_at : (ts : List Tally) (i : ℕ) (d : Tally) → i < length ts → get_or (tally_numbers ts) i 0 ≡ (get_or ts i d).number
number_at ts i d within = get_or-map (λ (t : Tally). t.number) ts i d 0 within

-- ---- the tallies of other keys
module _ (ts : List Tally) (ps ps' : List Posting) (filed : AreFiled ts ps) where
  -- a key has the same rows among the new postings
  abbrev KeepsRows : Tally → Type 0
  KeepsRows t = posting_rows t.number ps' ≡ posting_rows t.number ps

  tally_kept : (k : ℕ) (d : Tally) → k < length ts → KeepsRows (get_or ts k d) → IsTallyOf (posting_rows (get_or ts k d).number ps') (get_or ts k d)
  tally_kept k d low keeps = subst (λ (rs : List ℕ). IsTallyOf rs (get_or ts k d)) (sym keeps) (filed.counted k d low)

-- ---- one posting more of a key
module _ (ts : List Tally) (ps : List Posting) (filed : AreFiled ts ps) (row : ℕ) (bound : NoRowAbove row ps) where
  -- the tally of a key's rows after one more
  tally-push : (rows : List ℕ) (v w : Tally) → IsTallyOf rows v → All (λ r. r ≤ row) rows → v.last ≢ row → w.count ≡ v.count + 1 → w.last ≡ row → IsTallyOf (rows ++ row ∷ []) w
  tally-push rows v w tally low apart count last =
      let long = length_push rows row in
      let at_end : slice_get (rows ++ row ∷ []) (length rows) ≡ Some row =
      slice_get-get_or (rows ++ row ∷ []) (length rows) row (omega (arith, long)) ∙ ap Some (get_or_push rows row row (length rows) refl) in
      let is : length (rows ++ row ∷ []) - 1 ≡ length rows = omega (arith, long) in
      let all = tally.count in
      record {
        count = omega (arith, count, all, long);
        last = ap (slice_get (rows ++ row ∷ [])) is ∙ at_end ∙ ap Some (sym last);
        ascending = increasing-push rows row v.last tally.ascending tally.last (last_below rows row v.last low tally.last apart);
      }

  rows_below : (n : ℕ) → All (λ r. r ≤ row) (posting_rows n ps)
  rows_below n = All-map (λ r. r ≤ row) (λ (p : Posting). p.row) (filter (λ (p : Posting). eqb n p.number) ps) (All-filter (λ (p : Posting). eqb n p.number) (λ p. p.row ≤ row) ps bound)

  -- the key at a place has one row more
  module _ (i : ℕ) (v w : Tally) (within : i < length ts) (at : (d : Tally) → get_or ts i d ≡ v) (number : w.number ≡ v.number) where
    abbrev more : Posting
    more = record { number = v.number; row = row }

    numbers-set : tally_numbers (set ts i w) ≡ tally_numbers ts
    numbers-set =
        let is : w.number ≡ get_or (tally_numbers ts) i 0 = number ∙ sym (number_at ts i v within ∙ ap (λ (t : Tally). t.number) (at v)) in
        map-set (λ (t : Tally). t.number) ts i w ∙ ap (set (tally_numbers ts) i) is ∙ set-get_or (tally_numbers ts) i 0

    others_keep : (k : ℕ) (d : Tally) → k < length ts → k ≢ i → posting_rows (get_or ts k d).number (ps ++ more ∷ []) ≡ posting_rows (get_or ts k d).number ps
    others_keep k d low apart =
        let long = length-map ts (λ (t : Tally). t.number) in
        let distinct = apart_at (tally_numbers ts) k i filed.numbered.distinct apart (omega (arith, long, low)) (omega (arith, long, within)) in
        let here : get_or (tally_numbers ts) k 0 ≡ (get_or ts k d).number = number_at ts k d low in
        let there : get_or (tally_numbers ts) i 0 ≡ v.number = number_at ts i v within ∙ ap (λ (t : Tally). t.number) (at v) in
        let differs : eqb (get_or ts k d).number v.number ≡ false = ap (λ (n : ℕ). eqb n v.number) (sym here) ∙ ap (eqb (get_or (tally_numbers ts) k 0)) (sym there) ∙ distinct in
        rows_of-other (get_or ts k d).number ps more differs

    pub own_tally : IsTallyOf (posting_rows v.number ps) v
    own_tally = subst (λ (t : Tally). IsTallyOf (posting_rows t.number ps) t) (at v) (filed.counted i v within)

    pub own_rows : posting_rows w.number (ps ++ more ∷ []) ≡ posting_rows v.number ps ++ row ∷ []
    own_rows = ap (λ (n : ℕ). posting_rows n (ps ++ more ∷ [])) number ∙ rows_of-own v.number ps more refl

    pub own_ascends : v.last ≢ row → IsStrictlyIncreasing (posting_rows v.number ps ++ row ∷ [])
    own_ascends apart = increasing-push (posting_rows v.number ps) row v.last own_tally.ascending own_tally.last (last_below (posting_rows v.number ps) row v.last (rows_below v.number) own_tally.last apart)

    pub filed-set : v.last ≢ row → w.count ≡ v.count + 1 → w.last ≡ row → AreFiled (set ts i w) (ps ++ more ∷ [])
    filed-set apart count last =
        let same_numbers = numbers-set in
        let same_length : length (set ts i w) ≡ length ts = length-set ts i w in
        let long = length-map ts (λ (t : Tally). t.number) in
        let there : get_or (tally_numbers ts) i 0 ≡ v.number = number_at ts i v within ∙ ap (λ (t : Tally). t.number) (at v) in
        let is_known : list_any (λ n. eqb n v.number) (tally_numbers ts) ≡ true =
        list_any_at (λ n. eqb n v.number) (tally_numbers ts) i 0 (omega (arith, long, within)) (eq-eqb (get_or (tally_numbers ts) i 0) v.number there) in
        record {
          numbered = record {
            distinct = subst (IsDistinct eqb) (sym same_numbers) filed.numbered.distinct;
            below = subst (λ (ns : List ℕ). All (λ n. n < length (set ts i w)) ns) (sym same_numbers)
                (subst (λ (l : ℕ). All (λ n. n < l) (tally_numbers ts)) (sym same_length) filed.numbered.below);
          };
          known = subst (λ (ns : List ℕ). All (λ p. list_any (λ n. eqb n p.number) ns ≡ true) (ps ++ more ∷ [])) (sym same_numbers)
              (All-push (λ p. list_any (λ n. eqb n p.number) (tally_numbers ts) ≡ true) ps more filed.known is_known);
          counted = λ k d low. ⊎_elim
              (λ (here : k ≡ i).
              let put : get_or (set ts i w) k d ≡ w = ap (λ (j : ℕ). get_or (set ts i w) j d) here ∙ get_or-set_same ts i w d within in
              subst (λ (t : Tally). IsTallyOf (posting_rows t.number (ps ++ more ∷ [])) t) (sym put)
              (subst (λ (rs : List ℕ). IsTallyOf rs w) (sym own_rows) (tally-push (posting_rows v.number ps) v w own_tally (rows_below v.number) apart count last)))
              (λ (other : k ≢ i).
              let before : k < length ts = omega (arith, low, same_length) in
              subst (λ (t : Tally). IsTallyOf (posting_rows t.number (ps ++ more ∷ [])) t) (sym (get_or-set_other ts i k w d other))
              (tally_kept ts ps (ps ++ more ∷ []) filed k d before (others_keep k d before other)))
              (cases_eq k i);
        }

  -- ---- a new key
  module _ (w : Tally) (next : w.number ≡ length ts) (count : w.count ≡ 1) (last : w.last ≡ row) where
    abbrev first : Posting
    first = record { number = w.number; row = row }

    below_next : (k : ℕ) (d : Tally) → k < length ts → eqb (get_or ts k d).number w.number ≡ false
    below_next k d low =
        let long = length-map ts (λ (t : Tally). t.number) in
        let below = filed.numbered.below k 0 (omega (arith, long, low)) in
        let is = number_at ts k d low in
        differ (get_or ts k d).number w.number (λ same. absurd (omega (arith, below, is, next, same)))

    pub kept_new : (k : ℕ) (d : Tally) → k < length ts → posting_rows (get_or ts k d).number (ps ++ first ∷ []) ≡ posting_rows (get_or ts k d).number ps
    kept_new k d low = rows_of-other (get_or ts k d).number ps first (below_next k d low)

    -- no posting is one of the new key
    no_rows : (qs : List Posting) → AllByRecursion (λ p. list_any (λ n. eqb n p.number) (tally_numbers ts) ≡ true) qs → posting_rows w.number qs ≡ []
    no_rows [] known = refl
    no_rows (q ∷ qs) known =
        let low = below_from_known (tally_numbers ts) q.number (length ts) known.0 (recursion_from_All (λ n. n < length ts) (tally_numbers ts) filed.numbered.below) in
        let apart : eqb w.number q.number ≡ false = differ w.number q.number (λ same. absurd (omega (arith, low, next, same))) in
        rw apart (no_rows qs known.1)

    pub new_rows : posting_rows w.number (ps ++ first ∷ []) ≡ row ∷ []
    new_rows = rows_of-own w.number ps first refl
        ∙ ap (λ (rs : List ℕ). rs ++ row ∷ []) (no_rows ps (recursion_from_All (λ p. list_any (λ n. eqb n p.number) (tally_numbers ts) ≡ true) ps filed.known))

    one_row : IsTallyOf (row ∷ []) w
    one_row = record { count = count; last = ap Some (sym last); ascending = λ k low. absurd (omega (arith, low)) }

    new_apart : (ns : List ℕ) → AllByRecursion (λ n. n < length ts) ns → AllByRecursion (λ n. eqb w.number n ≡ false) ns
    new_apart [] below = tt
    new_apart (n ∷ ns) below =
        let low = below.0 in
        (differ w.number n (λ same. absurd (omega (arith, low, next, same))), new_apart ns below.1)

    pub filed-new : AreFiled (w ∷ ts) (ps ++ first ∷ [])
    filed-new =
        let P : Tally → Type 0 = λ t. IsTallyOf (posting_rows t.number (ps ++ first ∷ [])) t in
        let yes = eq-eqb w.number w.number refl in
        let is_known : list_any (λ n. eqb n w.number) (tally_numbers (w ∷ ts)) ≡ true = rw yes refl in
        record {
          numbered = record {
            distinct = IsDistinct-cons eqb w.number (tally_numbers ts) (new_apart (tally_numbers ts) (recursion_from_All (λ n. n < length ts) (tally_numbers ts) filed.numbered.below)) filed.numbered.distinct;
            below = All-cons (λ n. n < length (w ∷ ts)) w.number (tally_numbers ts) (omega (arith, next))
                (All-weaker (λ n. n < length ts) (λ n. n < length (w ∷ ts)) (λ n low. omega (arith, low)) (tally_numbers ts) filed.numbered.below);
          };
          known = All-push (λ p. list_any (λ n. eqb n p.number) (tally_numbers (w ∷ ts)) ≡ true) ps first
              (All-weaker (λ p. list_any (λ n. eqb n p.number) (tally_numbers ts) ≡ true) (λ p. list_any (λ n. eqb n p.number) (tally_numbers (w ∷ ts)) ≡ true)
              (λ p here. either (eqb w.number p.number) here) ps filed.known)
              is_known;
          counted = All-cons P w ts (subst (λ (rs : List ℕ). IsTallyOf rs w) (sym new_rows) one_row)
              (λ k d low. tally_kept ts ps (ps ++ first ∷ []) filed k d low (kept_new k d low));
        }
      where
        either : (b : Bool) {c : Bool} → c ≡ true → (b || c) ≡ true
        either true here = refl
        either false here = here

-- the order in which keys stand is no matter
pub filed-permuted : (ts us : List Tally) (ps : List Posting) → IsPermutation ts us → AreFiled ts ps → AreFiled us ps
filed-permuted ts us ps moved filed =
    let P : Tally → Type 0 = λ t. IsTallyOf (posting_rows t.number ps) t in
    let numbers : IsPermutation (tally_numbers ts) (tally_numbers us) = IsPermutation-map (λ (t : Tally). t.number) ts us moved in
    let as_long : length us ≡ length ts = length_permutation ts us moved in
    record {
      numbered = record {
        distinct = IsDistinct-IsPermutation eqb eqb-symm (tally_numbers ts) (tally_numbers us) numbers filed.numbered.distinct;
        below = subst (λ (l : ℕ). All (λ n. n < l) (tally_numbers us)) (sym as_long) (All-permutation (λ n. n < length ts) (tally_numbers ts) (tally_numbers us) numbers filed.numbered.below);
      };
      known = All-weaker (λ p. list_any (λ n. eqb n p.number) (tally_numbers ts) ≡ true) (λ p. list_any (λ n. eqb n p.number) (tally_numbers us) ≡ true)
          (λ p here. sym (list_any-IsPermutation (λ n. eqb n p.number) (tally_numbers ts) (tally_numbers us) numbers) ∙ here) ps filed.known;
      counted = All-permutation P ts us moved filed.counted;
    }

-- ---- no posting's row is above the one that was added last
pub NoRowAbove-later : (last row : ℕ) (ps : List Posting) → last ≤ row → NoRowAbove last ps → NoRowAbove row ps
NoRowAbove-later last row ps later all = All-weaker (λ p. p.row ≤ last) (λ p. p.row ≤ row) (λ p low. omega (arith, low, later)) ps all

pub NoRowAbove-posting : (number : Option ℕ) (row : ℕ) (ps : List Posting) → NoRowAbove row ps → NoRowAbove row (ps ++ posting_of number row)
NoRowAbove-posting None row ps all = subst (NoRowAbove row) (sym (append-nil ps)) all
NoRowAbove-posting (Some number) row ps all = All-push (λ p. p.row ≤ row) ps (record { number = number; row = row }) all (le_refl row)
