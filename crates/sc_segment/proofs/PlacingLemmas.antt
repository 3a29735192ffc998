-- Postings that are put to places by the counts of their keys: after each of them, and when all are placed.
use Rattle.std.proofs.Common.{◌≡◌, ℕ, suc, ◌+◌, ◌-◌, ◌<◌, ◌≤◌, ◌≢◌, ◌^◌, Bool, true, false, ◌||◌, true≢false, eqb, List, [], ◌∷◌, ◌++◌, length, take, drop, set, get_or, map, filter, append-nil, refl, sym, ap, subst, ◌∙◌, arith}
use Rattle.std.proofs.lemmas.Bool.{eqb-true, eqb-false, eq-eqb}
use Rattle.std.proofs.lemmas.List.{map-append, length-append, length_push, length-drop, drop-drop, drop-set-lt, drop-set-add, take-set-le, take_more_set, get_or-set_same, get_or-set_other, take-append-drop, take_more, take-map, get_or-map, get_or-take, length-map, length-take}
use Rattle.std.proofs.lemmas.List.Elements.{filter-append, recursion_from_All, All-weaker}
use Rattle.std.proofs.lemmas.Map.Keys.{IsDistinct-head, IsDistinct-tail, apart_from_distinct}
use Rattle.std.specs.List.{AllByRecursion, IsDistinct, list_any, slice_range}
use Rattle.std.specs.Map.{keys_of, values_of}
use Rattle.sc_segment.specs.declared.tally.Posting.{Posting}
use Rattle.sc_segment.specs.declared.tally.Tally.{Tally}
use Rattle.sc_segment.specs.Filing.{AreNumbered, AreFiled, IsTallyOf, posting_rows, filed_entries, tally_numbers}
use Rattle.sc_segment.specs.Flat.{IsLaidOut, entries_from, AreEnds}
use Rattle.sc_segment.specs.Placing.{rows_counted, ends_from, IsPlaced, ArePlaced, IsBegun}

-- ---- the rows of a key among postings
rows_of-append : (m : ℕ) (done more : List Posting) → posting_rows m (done ++ more) ≡ posting_rows m done ++ posting_rows m more
rows_of-append m done more =
    ap (map (λ p. p.row)) (filter-append (λ p. eqb m p.number) done more)
    ∙ map-append (λ p. p.row) (filter (λ p. eqb m p.number) done) (filter (λ p. eqb m p.number) more)

pub rows_of-own : (m : ℕ) (done : List Posting) (p : Posting) → m ≡ p.number → posting_rows m (done ++ p ∷ []) ≡ posting_rows m done ++ p.row ∷ []
rows_of-own m done p same =
    let yes = eq-eqb m p.number same in
    rows_of-append m done (p ∷ []) ∙ rw yes refl

pub rows_of-other : (m : ℕ) (done : List Posting) (p : Posting) → eqb m p.number ≡ false → posting_rows m (done ++ p ∷ []) ≡ posting_rows m done
rows_of-other m done p apart = rows_of-append m done (p ∷ []) ∙ rw apart (append-nil (posting_rows m done))

-- a key has no fewer rows among more postings
rows_of-fewer : (m : ℕ) (postings : List Posting) (i : ℕ) → length (posting_rows m (take i postings)) ≤ length (posting_rows m postings)
rows_of-fewer m postings i =
    let parts = rows_of-append m (take i postings) (drop i postings) in
    let both : posting_rows m (take i postings ++ drop i postings) ≡ posting_rows m postings = ap (posting_rows m) (take-append-drop i postings) in
    let long = length-append (posting_rows m (take i postings)) (posting_rows m (drop i postings)) in
    let same = ap length (sym parts ∙ both) in
    omega (arith, long, same)

-- ---- what is said of a key is said as well where its rows, their places and its next place are the same
IsPlaced-same : (from : ℕ) (own own' : List ℕ) (next next' : ℕ) (rows rows' : List ℕ) → own' ≡ own → next' ≡ next → take (length own) (drop from rows') ≡ take (length own) (drop from rows)
    → IsPlaced from own next rows → IsPlaced from own' next' rows'
IsPlaced-same from own own' next next' rows rows' same_rows same_next same_places placed = record {
  next = same_next ∙ placed.next ∙ ap (λ (rs : List ℕ). from + length rs) (sym same_rows);
  stand = ap (λ (rs : List ℕ). take (length rs) (drop from rows')) same_rows ∙ same_places ∙ placed.stand ∙ sym same_rows;
}

placed_same : (from : ℕ) (ts : List Tally) (done done' : List Posting) (next next' rows rows' : List ℕ) → drop from rows' ≡ drop from rows
    → AllByRecursion (λ m. (get_or next' m 0 ≡ get_or next m 0) × (posting_rows m done' ≡ posting_rows m done)) (tally_numbers ts)
    → ArePlaced from ts done next rows → ArePlaced from ts done' next' rows'
placed_same from [] done done' next next' rows rows' rest agree placed = tt
placed_same from (t ∷ ts) done done' next next' rows rows' rest agree placed =
    let later : drop (from + t.count) rows' ≡ drop (from + t.count) rows = sym (drop-drop t.count from rows') ∙ ap (drop t.count) rest ∙ drop-drop t.count from rows in (
      IsPlaced-same from (posting_rows t.number done) (posting_rows t.number done') (get_or next t.number 0) (get_or next' t.number 0) rows rows' agree.0.1 agree.0.0
          (ap (take (length (posting_rows t.number done))) rest) placed.0,
      placed_same (from + t.count) ts done done' next next' rows rows' later agree.1 placed.1,
    )

pub differ : (a b : ℕ) → a ≢ b → eqb a b ≡ false
differ a b apart = by (eqb a b) refl
  where
    by : (r : Bool) → eqb a b ≡ r → eqb a b ≡ false
    by true is = absurd (apart (eqb-true a b is))
    by false is = is

-- a posting of another key and the next place of that key change nothing
others_agree : (done : List Posting) (p : Posting) (next : List ℕ) (v n : ℕ) → n ≡ p.number → (ms : List ℕ) → AllByRecursion (λ m. eqb n m ≡ false) ms
    → AllByRecursion (λ m. (get_or (set next p.number v) m 0 ≡ get_or next m 0) × (posting_rows m (done ++ p ∷ []) ≡ posting_rows m done)) ms
others_agree done p next v n same [] apart = tt
others_agree done p next v n same (m ∷ ms) apart =
    let differs : m ≢ p.number = λ is. eqb-false n m apart.0 (same ∙ sym is) in
    ((get_or-set_other next p.number m v 0 differs, rows_of-other m done p (differ m p.number differs)), others_agree done p next v n same ms apart.1)

-- ---- the next place of a key is within its own rows
module _ (done : List Posting) (p : Posting) (next rows : List ℕ) where
  abbrev IsKnown : List Tally → Type 0
  IsKnown ts = list_any (λ n. eqb n p.number) (tally_numbers ts) ≡ true

  -- no key has more rows than are counted
  abbrev Fits : List Tally → Type 0
  Fits ts = AllByRecursion (λ t. length (posting_rows t.number (done ++ p ∷ [])) ≤ t.count) ts

  next_from : (from : ℕ) (ts : List Tally) → IsKnown ts → ArePlaced from ts done next rows → from ≤ get_or next p.number 0
  next_from from [] known placed = absurd (true≢false (sym known))
  next_from from (t ∷ ts) known placed = by (eqb t.number p.number) refl known (λ here. next_from (from + t.count) ts here placed.1)
    where
      by : (r : Bool) → eqb t.number p.number ≡ r → (r || list_any (λ n. eqb n p.number) (tally_numbers ts)) ≡ true → (list_any (λ n. eqb n p.number) (tally_numbers ts) ≡ true → from + t.count ≤ get_or next p.number 0) → from ≤ get_or next p.number 0
      by true is here later =
          let same = ap (λ (n : ℕ). get_or next n 0) (eqb-true t.number p.number is) in
          let at = placed.0.next in
          omega (arith, same, at)
      by false is here later = let rest = later here in omega (arith, rest)

  next_below : (from : ℕ) (ts : List Tally) → IsKnown ts → Fits ts → ArePlaced from ts done next rows → get_or next p.number 0 < from + rows_counted ts
  next_below from [] known fits placed = absurd (true≢false (sym known))
  next_below from (t ∷ ts) known fits placed = by (eqb t.number p.number) refl known (λ here. next_below (from + t.count) ts here fits.1 placed.1)
    where
      by : (r : Bool) → eqb t.number p.number ≡ r → (r || list_any (λ n. eqb n p.number) (tally_numbers ts)) ≡ true → (list_any (λ n. eqb n p.number) (tally_numbers ts) ≡ true → get_or next p.number 0 < from + t.count + rows_counted ts)
          → get_or next p.number 0 < from + (t.count + rows_counted ts)
      by true is here later =
          let own = eqb-true t.number p.number is in
          let same = ap (λ (n : ℕ). get_or next n 0) own in
          let at = placed.0.next in
          let more = ap length (rows_of-own t.number done p own) in
          let long = length_push (posting_rows t.number done) p.row in
          let room = fits.0 in
          omega (arith, same, at, more, long, room)
      by false is here later = let rest = later here in omega (arith, rest)

  -- the posting's own key
  own_placed : (from : ℕ) (t : Tally) → t.number ≡ p.number → p.number < length next → get_or next p.number 0 < length rows
      → IsPlaced from (posting_rows t.number done) (get_or next t.number 0) rows
      → IsPlaced from (posting_rows t.number (done ++ p ∷ [])) (get_or (set next p.number (get_or next p.number 0 + 1)) t.number 0) (set rows (get_or next p.number 0) p.row)
  own_placed from t own within room placed =
      let rs = posting_rows t.number done in
      let v = get_or next p.number 0 in
      let is : v ≡ from + length rs = ap (λ (n : ℕ). get_or next n 0) (sym own) ∙ placed.next in
      let more : posting_rows t.number (done ++ p ∷ []) ≡ rs ++ p.row ∷ [] = rows_of-own t.number done p own in
      let long : length (posting_rows t.number (done ++ p ∷ [])) ≡ length rs + 1 = ap length more ∙ length_push rs p.row in
      let put : get_or (set next p.number (v + 1)) t.number 0 ≡ v + 1 = ap (λ (n : ℕ). get_or (set next p.number (v + 1)) n 0) own ∙ get_or-set_same next p.number (v + 1) 0 within in
      let left : length rs < length (drop from rows) = omega (arith, length-drop from rows, is, room) in
      let stand : take (length rs + 1) (drop from (set rows (from + length rs) p.row)) ≡ rs ++ p.row ∷ [] =
      ap (take (length rs + 1)) (drop-set-add from rows (length rs) p.row) ∙ take_more_set (drop from rows) (length rs) p.row left ∙ ap (λ (xs : List ℕ). xs ++ p.row ∷ []) placed.stand in
      record {
        next = omega (arith, put, is, long);
        stand = ap (λ (n : ℕ). take n (drop from (set rows v p.row))) long ∙ ap (λ (n : ℕ). take (length rs + 1) (drop from (set rows n p.row))) is ∙ stand ∙ sym more;
      }

  -- a key before the posting's own
  before_placed : (from : ℕ) (t : Tally) → eqb t.number p.number ≡ false → length (posting_rows t.number (done ++ p ∷ [])) ≤ t.count → from + t.count ≤ get_or next p.number 0
      → IsPlaced from (posting_rows t.number done) (get_or next t.number 0) rows
      → IsPlaced from (posting_rows t.number (done ++ p ∷ [])) (get_or (set next p.number (get_or next p.number 0 + 1)) t.number 0) (set rows (get_or next p.number 0) p.row)
  before_placed from t apart fits past placed =
      let rs = posting_rows t.number done in
      let v = get_or next p.number 0 in
      let same : posting_rows t.number (done ++ p ∷ []) ≡ rs = rows_of-other t.number done p apart in
      let room : length rs ≤ t.count = subst (λ (xs : List ℕ). length xs ≤ t.count) same fits in
      let is : v ≡ from + (v - from) = omega (arith, past) in
      let stay : take (length rs) (drop from (set rows v p.row)) ≡ take (length rs) (drop from rows) =
      ap (λ (n : ℕ). take (length rs) (drop from (set rows n p.row))) is ∙ ap (take (length rs)) (drop-set-add from rows (v - from) p.row)
      ∙ take-set-le (length rs) (drop from rows) (v - from) p.row (omega (arith, room, past)) in
      IsPlaced-same from rs (posting_rows t.number (done ++ p ∷ [])) (get_or next t.number 0) (get_or (set next p.number (v + 1)) t.number 0) rows (set rows v p.row) same
      (get_or-set_other next p.number t.number (v + 1) 0 (eqb-false t.number p.number apart)) stay placed

  -- one posting more is placed
  placed_more : (from : ℕ) (ts : List Tally) → IsDistinct eqb (tally_numbers ts) → IsKnown ts → Fits ts → p.number < length next → get_or next p.number 0 < length rows
      → ArePlaced from ts done next rows → ArePlaced from ts (done ++ p ∷ []) (set next p.number (get_or next p.number 0 + 1)) (set rows (get_or next p.number 0) p.row)
  placed_more from [] distinct known fits within room placed = tt
  placed_more from (t ∷ ts) distinct known fits within room placed =
      by (eqb t.number p.number) refl known (λ here. placed_more (from + t.count) ts (IsDistinct-tail eqb t.number (tally_numbers ts) distinct) here fits.1 within room placed.1)
    where
      by : (r : Bool) → eqb t.number p.number ≡ r → (r || list_any (λ n. eqb n p.number) (tally_numbers ts)) ≡ true
          → (list_any (λ n. eqb n p.number) (tally_numbers ts) ≡ true → ArePlaced (from + t.count) ts (done ++ p ∷ []) (set next p.number (get_or next p.number 0 + 1)) (set rows (get_or next p.number 0) p.row))
          → ArePlaced from (t ∷ ts) (done ++ p ∷ []) (set next p.number (get_or next p.number 0 + 1)) (set rows (get_or next p.number 0) p.row)
      by true is here later =
          let own = eqb-true t.number p.number is in
          let same = ap (λ (n : ℕ). get_or next n 0) own in
          let at = placed.0.next in
          let more = ap length (rows_of-own t.number done p own) in
          let long = length_push (posting_rows t.number done) p.row in
          let enough = fits.0 in
          let low : get_or next p.number 0 < from + t.count = omega (arith, same, at, more, long, enough) in (
            own_placed from t own within room placed.0,
            placed_same (from + t.count) ts done (done ++ p ∷ []) next (set next p.number (get_or next p.number 0 + 1)) rows (set rows (get_or next p.number 0) p.row)
                (drop-set-lt (from + t.count) rows (get_or next p.number 0) p.row low)
                (others_agree done p next (get_or next p.number 0 + 1) t.number own (tally_numbers ts) (IsDistinct-head eqb t.number (tally_numbers ts) distinct)) placed.1,
          )
      by false is here later = (before_placed from t is fits.0 (next_from (from + t.count) ts here placed.1) placed.0, later here)

-- ---- where the rows of keys begin and end
pub rows_counted-push : (ts : List Tally) (t : Tally) → rows_counted (ts ++ t ∷ []) ≡ rows_counted ts + t.count
rows_counted-push [] t = omega arith
rows_counted-push (s ∷ ts) t = let rest = rows_counted-push ts t in omega (arith, rest)

pub ends_from-push : (from : ℕ) (ts : List Tally) (t : Tally) (end : ℕ) → end ≡ from + rows_counted ts + t.count → ends_from from (ts ++ t ∷ []) ≡ ends_from from ts ++ end ∷ []
ends_from-push from [] t end is = ap (λ (n : ℕ). n ∷ []) (omega (arith, is))
ends_from-push from (s ∷ ts) t end is = ap (λ (ns : List ℕ). (from + s.count) ∷ ns) (ends_from-push (from + s.count) ts t end (omega (arith, is)))

-- one key more, of which nothing is placed
pub begin-push : (from : ℕ) (ts : List Tally) (t : Tally) (next rows : List ℕ) (v : ℕ) → AllByRecursion (λ m. eqb t.number m ≡ false) (tally_numbers ts) → t.number < length next
    → v ≡ from + rows_counted ts → ArePlaced from ts [] next rows → ArePlaced from (ts ++ t ∷ []) [] (set next t.number v) rows
begin-push from [] t next rows v apart within is placed =
    (record { next = get_or-set_same next t.number v 0 within ∙ omega (arith, is); stand = refl }, tt)
begin-push from (s ∷ ts) t next rows v apart within is placed =
    let differs : s.number ≢ t.number = λ same. eqb-false t.number s.number apart.0 (sym same) in (
      record { next = get_or-set_other next t.number s.number v 0 differs ∙ placed.0.next; stand = refl },
      begin-push (from + s.count) ts t next rows v apart.1 within (omega (arith, is)) placed.1,
    )

AreEnds-counted : (from : ℕ) (ts : List Tally) (n : ℕ) → from + rows_counted ts ≤ n → AreEnds from (ends_from from ts) n
AreEnds-counted from [] n le = omega (arith, le)
AreEnds-counted from (t ∷ ts) n le = (omega arith, AreEnds-counted (from + t.count) ts n (omega (arith, le)))

length-ends_from : (from : ℕ) (ts : List Tally) → length (ends_from from ts) ≡ length ts
length-ends_from from [] = refl
length-ends_from from (t ∷ ts) = ap suc (length-ends_from (from + t.count) ts)

-- ---- all are placed
-- placing by counts gives for each key just its rows among the postings, one key after another
pub entries-placed : {K : Type 0} (from : ℕ) (es : List (K × Tally)) (postings : List Posting) (next rows : List ℕ)
    → AllByRecursion (λ t. t.count ≡ length (posting_rows t.number postings)) (values_of es) → ArePlaced from (values_of es) postings next rows
    → entries_from from (keys_of es) (ends_from from (values_of es)) rows ≡ filed_entries es postings
entries-placed from [] postings next rows counted placed = refl
entries-placed {K} from (e ∷ es) postings next rows counted placed =
    let own = posting_rows e.1.number postings in
    let wide : from + e.1.count - from ≡ length own = omega (arith, counted.0) in
    let here : slice_range rows from (from + e.1.count) ≡ own = ap (λ (n : ℕ). take n (drop from rows)) wide ∙ placed.0.stand in
    ap (λ (rs : List ℕ). (e.0, rs) ∷ entries_from (from + e.1.count) (keys_of es) (ends_from (from + e.1.count) (values_of es)) rows) here
    ∙ ap (λ (fs : List (K × List ℕ)). (e.0, own) ∷ fs) (entries-placed (from + e.1.count) es postings next rows counted.1 placed.1)

-- the three lists are those of an index
pub laid_out_by : {K : Type 0} (es : List (K × Tally)) (keys : List K) (ends rows : List ℕ) → keys ≡ keys_of es → ends ≡ ends_from 0 (values_of es) → length rows ≡ rows_counted (values_of es) → IsLaidOut keys ends rows
laid_out_by {K} es keys ends rows as_keys as_ends room =
    let long = length-map es (λ (e : K × Tally). e.0) in
    let long' = length-map es (λ (e : K × Tally). e.1) in
    let all = length-ends_from 0 (values_of es) in
    let these = ap length as_keys in
    let those = ap length as_ends in
    record {
      as_long = omega (arith, long, long', all, these, those);
      are_ends = subst (λ (ns : List ℕ). AreEnds 0 ns (length rows)) (sym as_ends) (AreEnds-counted 0 (values_of es) (length rows) (omega (arith, room)));
    }

-- what is counted of each key, by its tally
pub counted_rows : (ts : List Tally) (postings : List Posting) → AreFiled ts postings → AllByRecursion (λ t. t.count ≡ length (posting_rows t.number postings)) ts
counted_rows ts postings filed = recursion_from_All (λ t. t.count ≡ length (posting_rows t.number postings)) ts
    (All-weaker (λ t. IsTallyOf (posting_rows t.number postings) t) (λ t. t.count ≡ length (posting_rows t.number postings)) (λ t tally. tally.count) ts filed.counted)

-- ---- at a place of a list
-- a number that is one of these is below what they are all below
pub below_from_known : (ns : List ℕ) (m limit : ℕ) → list_any (λ n. eqb n m) ns ≡ true → AllByRecursion (λ n. n < limit) ns → m < limit
below_from_known [] m limit known below = absurd (true≢false (sym known))
below_from_known (n ∷ ns) m limit known below = by (eqb n m) refl known (λ here. below_from_known ns m limit here below.1)
  where
    by : (r : Bool) → eqb n m ≡ r → (r || list_any (λ k. eqb k m) ns) ≡ true → (list_any (λ k. eqb k m) ns ≡ true → m < limit) → m < limit
    by true is here later = let same = eqb-true n m is in let low = below.0 in omega (arith, same, low)
    by false is here later = later here

-- the key at a place among those before it
module _ (tallies : List Tally) (numbered : AreNumbered tallies) (i : ℕ) (t : Tally) (within : i < length tallies) (read : t ≡ get_or tallies i t) where
  number_read : (d : ℕ) → get_or (tally_numbers tallies) i d ≡ t.number
  number_read d = get_or-map (λ (s : Tally). s.number) tallies i t d within ∙ ap (λ (s : Tally). s.number) (sym read)

  pub number_below : t.number < length tallies
  number_below =
      let long = length-map tallies (λ (s : Tally). s.number) in
      let low = numbered.below i 0 (omega (arith, long, within)) in
      let is = number_read 0 in
      omega (arith, low, is)

  pub taken : take (i + 1) tallies ≡ take i tallies ++ t ∷ []
  taken = take_more tallies i t within ∙ ap (λ (s : Tally). take i tallies ++ s ∷ []) (sym read)

  pub apart_before : AllByRecursion (λ m. eqb t.number m ≡ false) (tally_numbers (take i tallies))
  apart_before =
      let ns = tally_numbers tallies in
      let long = length-map tallies (λ (s : Tally). s.number) in
      subst (AllByRecursion (λ m. eqb t.number m ≡ false)) (take-map (λ (s : Tally). s.number) i tallies)
      (recursion_from_All (λ m. eqb t.number m ≡ false) (take i ns) (λ k d low.
      let few = length-take i ns in
      let before : k < i = omega (arith, few, low) in
      let apart = apart_from_distinct eqb ns k i d numbered.distinct before (omega (arith, long, within)) in
      let there : get_or (take i ns) k d ≡ get_or ns k d = get_or-take i ns k d before in
      differ t.number (get_or (take i ns) k d) (λ same. eqb-false (get_or ns k d) (get_or ns i d) apart (sym (number_read d ∙ same ∙ there)))))

-- the posting at a place, where those before it are placed
module _ (tallies : List Tally) (postings : List Posting) (next0 rows0 : List ℕ) (begun : IsBegun tallies postings next0 rows0) (i : ℕ) (p : Posting) (within : i < length postings) (read : p ≡ get_or postings i p)
    (next rows : List ℕ) (as_next : length next ≡ length next0) (as_rows : length rows ≡ length rows0) (placed : ArePlaced 0 tallies (take i postings) next rows) where
  one_more : take (i + 1) postings ≡ take i postings ++ p ∷ []
  one_more = take_more postings i p within ∙ ap (λ (q : Posting). take i postings ++ q ∷ []) (sym read)

  known : list_any (λ n. eqb n p.number) (tally_numbers tallies) ≡ true
  known = ap (λ (q : Posting). list_any (λ n. eqb n q.number) (tally_numbers tallies)) read ∙ begun.filed.known i p within

  fits : AllByRecursion (λ t. length (posting_rows t.number (take i postings ++ p ∷ [])) ≤ t.count) tallies
  fits = recursion_from_All (λ t. length (posting_rows t.number (take i postings ++ p ∷ [])) ≤ t.count) tallies
      (All-weaker (λ t. IsTallyOf (posting_rows t.number postings) t) (λ t. length (posting_rows t.number (take i postings ++ p ∷ [])) ≤ t.count)
      (λ t tally.
      let fewer = rows_of-fewer t.number postings (i + 1) in
      let same = ap (λ (ps : List Posting). length (posting_rows t.number ps)) one_more in
      let all = tally.count in
      omega (arith, fewer, same, all)) tallies begun.filed.counted)

  pub number_within : p.number < length next
  number_within =
      let low = below_from_known (tally_numbers tallies) p.number (length tallies) known (recursion_from_All (λ n. n < length tallies) (tally_numbers tallies) begun.filed.numbered.below) in
      let long = begun.as_long in
      omega (arith, low, long, as_next)

  place_counted : get_or next p.number 0 < rows_counted tallies
  place_counted = let low = next_below (take i postings) p next rows 0 tallies known fits placed in omega (arith, low)

  pub place_within : get_or next p.number 0 < length rows
  place_within = let low = place_counted in let long = begun.room in omega (arith, low, long, as_rows)

  pub place_fits : get_or next p.number 0 + 1 < 2 ^ 32
  place_fits = let low = place_counted in let most = begun.fits in omega (arith, low, most)

  pub placed_one_more : ArePlaced 0 tallies (take (i + 1) postings) (set next p.number (get_or next p.number 0 + 1)) (set rows (get_or next p.number 0) p.row)
  placed_one_more = subst (λ (ps : List Posting). ArePlaced 0 tallies ps (set next p.number (get_or next p.number 0 + 1)) (set rows (get_or next p.number 0) p.row)) (sym one_more)
      (placed_more (take i postings) p next rows 0 tallies begun.filed.numbered.distinct known fits number_within place_within placed)
