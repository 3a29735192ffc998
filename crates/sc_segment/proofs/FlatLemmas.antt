-- An index laid out flat: what it has at each place, and after rows or a key were put at its end.
use Rattle.std.proofs.Common.{◌≡◌, ℕ, zero, suc, ◌+◌, ◌-◌, ◌<◌, ◌≤◌, List, [], ◌∷◌, ◌++◌, length, take, drop, get_or, slice_get, Some, append-nil, refl, sym, ap, subst, ◌∙◌, arith}
use Rattle.std.proofs.lemmas.List.{length-append, length-drop, length_push, drop-append-le, take-append-le, take_rest, drop_all}
use Rattle.std.specs.Map.{keys_of}
use Rattle.std.specs.List.{slice_range}
use Rattle.sc_rows.proofs.RangeLemmas.{length-range}
use Rattle.sc_segment.specs.Flat.{FlatState, IsLaidOut, AreAllClosed, PutsKey, entries_from, entry_for, key_ends, last_end, AreEnds, rows_among}
use Rattle.sc_segment.specs.Storing.{KeptState}

-- where the rows of the key at a place begin
abbrev pub begin : ℕ → List ℕ → ℕ → ℕ
begin from ends zero = from
begin from ends (suc i) = get_or ends i 0

begin-rest : (from end : ℕ) (ends : List ℕ) (i : ℕ) → begin end ends i ≡ begin from (end ∷ ends) (suc i)
begin-rest from end ends zero = refl
begin-rest from end ends (suc i) = refl

-- a place is where rows begin, by the case of the first one
pub begin_from_clauses : (ends : List ℕ) (at start : ℕ) → (at ≡ 0 → start ≡ 0) → (0 < at → start ≡ get_or ends (at - 1) 0) → start ≡ begin 0 ends at
begin_from_clauses ends zero start first later = first refl
begin_from_clauses ends (suc i) start first later = later (omega arith) ∙ ap (λ (n : ℕ). get_or ends n 0) (omega arith)

-- the rows after the last key begin where its own end
pub last_end-begin : (from : ℕ) (ends : List ℕ) → last_end from ends ≡ begin from ends (length ends)
last_end-begin from [] = refl
last_end-begin from (e ∷ es) = last_end-begin e es ∙ begin-rest from e es (length es)

from_within : (from : ℕ) (ends : List ℕ) (n : ℕ) → AreEnds from ends n → from ≤ n
from_within from [] n are = are
from_within from (e ∷ es) n are =
    let first = are.0 in
    let rest = from_within e es n are.1 in omega (arith, first, rest)

pub last_within : (from : ℕ) (ends : List ℕ) (n : ℕ) → AreEnds from ends n → last_end from ends ≤ n
last_within from [] n are = are
last_within from (e ∷ es) n are = last_within e es n are.1

pub end_within : (from : ℕ) (ends : List ℕ) (n i : ℕ) → AreEnds from ends n → i < length ends → get_or ends i 0 ≤ n
end_within from [] n i are within = absurd (omega arith)
end_within from (e ∷ es) n zero are within = from_within e es n are.1
end_within from (e ∷ es) n (suc i) are within = end_within e es n i are.1 (omega arith)

pub begin_before_end : (from : ℕ) (ends : List ℕ) (n i : ℕ) → AreEnds from ends n → i < length ends → begin from ends i ≤ get_or ends i 0
begin_before_end from [] n i are within = absurd (omega arith)
begin_before_end from (e ∷ es) n zero are within = are.0
begin_before_end from (e ∷ es) n (suc i) are within = rw (← begin-rest from e es i) (begin_before_end e es n i are.1 (omega arith))

-- no key's rows begin past all rows
pub begin_within : (from : ℕ) (ends : List ℕ) (n i : ℕ) → AreEnds from ends n → i ≤ length ends → begin from ends i ≤ n
begin_within from ends n zero are within = from_within from ends n are
begin_within from ends n (suc i) are within = end_within from ends n i are (omega arith)

pub AreEnds-more : (from : ℕ) (ends : List ℕ) (n m : ℕ) → n ≤ m → AreEnds from ends n → AreEnds from ends m
AreEnds-more from [] n m le are = omega (arith, are, le)
AreEnds-more from (e ∷ es) n m le are = (are.0, AreEnds-more e es n m le are.1)

pub AreEnds-push : (from : ℕ) (ends : List ℕ) (n : ℕ) → AreEnds from ends n → AreEnds from (ends ++ n ∷ []) n
AreEnds-push from [] n are = (are, omega arith)
AreEnds-push from (e ∷ es) n are = (are.0, AreEnds-push e es n are.1)

pub last_end-push : (from : ℕ) (ends : List ℕ) (n : ℕ) → last_end from (ends ++ n ∷ []) ≡ n
last_end-push from [] n = refl
last_end-push from (e ∷ es) n = last_end-push e es n

-- rows put at the end are no part of those before them
range-more : (rows more : List ℕ) (a b : ℕ) → a ≤ b → b ≤ length rows → slice_range (rows ++ more) a b ≡ slice_range rows a b
range-more rows more a b le within =
    let here : a ≤ length rows = omega arith in
    let enough : b - a ≤ length (drop a rows) = rw (length-drop a rows) (omega arith) in
    ap (take (b - a)) (drop-append-le a rows more here) ∙ take-append-le (b - a) (drop a rows) more enough

-- where no rows wait, the last key's end where all do
pub closed-from : (ends rows : List ℕ) → AreEnds 0 ends (length rows) → drop (last_end 0 ends) rows ≡ [] → AreAllClosed ends rows
closed-from ends rows are is =
    let le = last_within 0 ends (length rows) are in
    let none : length (drop (last_end 0 ends) rows) ≡ 0 = ap (λ (rs : List ℕ). length rs) is in
    omega (arith, le, none, length-drop (last_end 0 ends) rows)

module _ {K : Type 0} where
  pub length-entries : (from : ℕ) (keys : List K) (ends rows : List ℕ) → length keys ≡ length ends → length (entries_from from keys ends rows) ≡ length ends
  length-entries from [] [] rows same = refl
  length-entries from [] (e ∷ es) rows same = cc
  length-entries from (k ∷ ks) [] rows same = cc
  length-entries from (k ∷ ks) (e ∷ es) rows same = ap suc (length-entries e ks es rows (omega (arith, same)))

  pub keys_of-entries : (from : ℕ) (keys : List K) (ends rows : List ℕ) → length keys ≡ length ends → keys_of (entries_from from keys ends rows) ≡ keys
  keys_of-entries from [] ends rows same = refl
  keys_of-entries from (k ∷ ks) [] rows same = cc
  keys_of-entries from (k ∷ ks) (e ∷ es) rows same = ap (λ (qs : List K). k ∷ qs) (keys_of-entries e ks es rows (omega (arith, same)))

  pub entry_at : (from : ℕ) (keys : List K) (ends rows : List ℕ) (i : ℕ) (k : K) → slice_get keys i ≡ Some k → i < length ends
      → slice_get (entries_from from keys ends rows) i ≡ Some (k, slice_range rows (begin from ends i) (get_or ends i 0))
  entry_at from [] ends rows i k at within = cc
  entry_at from (q ∷ qs) [] rows i k at within = absurd (omega arith)
  entry_at from (q ∷ qs) (e ∷ es) rows zero k at within =
      let same : q ≡ k = cc in
      ap (λ (x : K). Some (x, slice_range rows from e)) same
  entry_at from (q ∷ qs) (e ∷ es) rows (suc i) k at within =
      entry_at e qs es rows i k at (omega arith) ∙ ap (λ (a : ℕ). Some (k, slice_range rows a (get_or es i 0))) (begin-rest from e es i)

  entries-more : (from : ℕ) (keys : List K) (ends rows more : List ℕ) → AreEnds from ends (length rows)
      → entries_from from keys ends (rows ++ more) ≡ entries_from from keys ends rows
  entries-more from [] ends rows more are = refl
  entries-more from (k ∷ ks) [] rows more are = refl
  entries-more from (k ∷ ks) (e ∷ es) rows more are =
      let here = range-more rows more from e are.0 (from_within e es (length rows) are.1) in
      ap (λ (rs : List ℕ). (k, rs) ∷ entries_from e ks es (rows ++ more)) here
      ∙ ap (λ (xs : List (K × List ℕ)). (k, slice_range rows from e) ∷ xs) (entries-more e ks es rows more are.1)

  entries-push : (from : ℕ) (keys : List K) (ends rows : List ℕ) (k : K) (e : ℕ) → length keys ≡ length ends
      → entries_from from (keys ++ k ∷ []) (ends ++ e ∷ []) rows ≡ entries_from from keys ends rows ++ (k, slice_range rows (last_end from ends) e) ∷ []
  entries-push from [] [] rows k e same = refl
  entries-push from [] (a ∷ es) rows k e same = cc
  entries-push from (q ∷ qs) [] rows k e same = cc
  entries-push from (q ∷ qs) (a ∷ es) rows k e same =
      ap (λ (xs : List (K × List ℕ)). (q, slice_range rows from a) ∷ xs) (entries-push a qs es rows k e (omega (arith, same)))

  -- what these three lists stand for
  abbrev pub flat : List K → List ℕ → List ℕ → FlatState K
  flat keys ends rows = record { entries = entries_from 0 keys ends rows; pending = drop (last_end 0 ends) rows }

  -- an index that is only read, with rows that wait for no key
  abbrev pub as_flat : List ℕ → KeptState K → FlatState K
  as_flat pending kept = record { entries = kept.entries; pending = pending }

  -- rows more wait for their key
  pub flat-rows : (keys : List K) (ends rows more : List ℕ) (old : FlatState K) → AreEnds 0 ends (length rows) → flat keys ends rows ≡ old
      → flat keys ends (rows ++ more) ≡ record { entries = old.entries; pending = old.pending ++ more }
  flat-rows keys ends rows more old are was =
      let a = entries-more 0 keys ends rows more are ∙ ap (λ (s : FlatState K). s.entries) was in
      let b = drop-append-le (last_end 0 ends) rows more (last_within 0 ends (length rows) are) ∙ ap (λ (s : FlatState K). s.pending ++ more) was in
      cc (a, b)

  -- one key more has the rows that waited
  pub flat-close : (keys : List K) (ends rows : List ℕ) (k : K) (old : FlatState K) → length keys ≡ length ends → AreEnds 0 ends (length rows) → flat keys ends rows ≡ old
      → flat (keys ++ k ∷ []) (ends ++ length rows ∷ []) rows ≡ record { entries = old.entries ++ (k, old.pending) ∷ []; pending = [] }
  flat-close keys ends rows k old same are was =
      let a = entries-push 0 keys ends rows k (length rows) same
      ∙ ap (λ (rs : List ℕ). entries_from 0 keys ends rows ++ (k, rs) ∷ []) (take_rest rows (last_end 0 ends))
      ∙ ap (λ (s : FlatState K). s.entries ++ (k, s.pending) ∷ []) was in
      let b : drop (last_end 0 (ends ++ length rows ∷ [])) rows ≡ [] =
      ap (λ (n : ℕ). drop n rows) (last_end-push 0 ends (length rows)) ∙ drop_all (length rows) rows (omega arith) in
      cc (a, b)

  -- a place among the entries is one among the ends
  pub place_within : (keys : List K) (ends rows : List ℕ) (old : FlatState K) (at : ℕ) → length keys ≡ length ends → flat keys ends rows ≡ old → at < length old.entries → at < length ends
  place_within keys ends rows old at same was within =
      let a = length-entries 0 keys ends rows same in
      let b : length (entries_from 0 keys ends rows) ≡ length old.entries = ap (λ (s : FlatState K). length s.entries) was in
      omega (arith, a, b, within)

  -- the rows of a key are those from where the rows before it end
  pub flat-rows_of : (keys : List K) (ends rows : List ℕ) (old : FlatState K) (at start end : ℕ) (key : K) → length keys ≡ length ends → flat keys ends rows ≡ old → at < length ends
      → start ≡ begin 0 ends at → end ≡ get_or ends at 0 → slice_get (keys_of old.entries) at ≡ Some key → slice_get old.entries at ≡ Some (key, slice_range rows start end)
  flat-rows_of keys ends rows old at start end key same was within starts ends_at found =
      let there : slice_get keys at ≡ Some key =
      ap (λ (ks : List K). slice_get ks at) (sym (keys_of-entries 0 keys ends rows same)) ∙ ap (λ (s : FlatState K). slice_get (keys_of s.entries) at) was ∙ found in
      ap (λ (s : FlatState K). slice_get s.entries at) (sym was)
      ∙ entry_at 0 keys ends rows at key there within
      ∙ ap (λ (a : ℕ). Some (key, slice_range rows a (get_or ends at 0))) (sym starts)
      ∙ ap (λ (b : ℕ). Some (key, slice_range rows start b)) (sym ends_at)

  -- rows wait where there are rows after those of the last key
  pub length-pending : (keys : List K) (ends rows : List ℕ) (old : FlatState K) (start : ℕ) → flat keys ends rows ≡ old → start ≡ begin 0 ends (length ends) → length old.pending ≡ length rows - start
  length-pending keys ends rows old start was starts =
      ap (λ (s : FlatState K). length s.pending) (sym was)
      ∙ length-drop (last_end 0 ends) rows
      ∙ ap (λ (n : ℕ). length rows - n) (last_end-begin 0 ends ∙ sym starts)

  -- the rows of the first keys are those before where the next key's begin
  pub rows_among-begin : (from : ℕ) (keys : List K) (ends rows : List ℕ) (i : ℕ) → length keys ≡ length ends → AreEnds from ends (length rows) → i ≤ length ends
      → rows_among (take i (entries_from from keys ends rows)) + from ≡ begin from ends i
  rows_among-begin from keys ends rows zero same are within = omega arith
  rows_among-begin from [] [] rows (suc i) same are within = absurd (omega arith)
  rows_among-begin from [] (e ∷ es) rows (suc i) same are within = cc
  rows_among-begin from (k ∷ ks) [] rows (suc i) same are within = absurd (omega arith)
  rows_among-begin from (k ∷ ks) (e ∷ es) rows (suc i) same are within =
      let here = length-range rows from e are.0 (from_within e es (length rows) are.1) in
      let later = rows_among-begin e ks es rows i (omega (arith, same)) are.1 (omega arith) in
      let sum : rows_among (take (suc i) (entries_from from (k ∷ ks) (e ∷ es) rows)) ≡ length (slice_range rows from e) + rows_among (take i (entries_from e ks es rows)) = refl in
      (omega (arith, here, later, sum)) ∙ begin-rest from e es i

  -- where the rows of a key begin, counted among the entries, by the case of the first one
  pub start_counted : (keys : List K) (ends rows : List ℕ) (state : FlatState K) (at start : ℕ) (ends' : List ℕ) → length keys ≡ length ends → AreEnds 0 ends (length rows) → flat keys ends rows ≡ state
      → at ≤ length state.entries → ends' ≡ ends → (at ≡ 0 → start ≡ 0) → (0 < at → start ≡ get_or ends' (at - 1) 0) → start ≡ rows_among (take at state.entries)
  start_counted keys ends rows state at start ends' same are seen within as_ends first later =
      let all = length-entries 0 keys ends rows same in
      let long = ap (λ (s : FlatState K). length s.entries) seen in
      let inside : at ≤ length ends = omega (arith, all, long, within) in
      let starts : start ≡ begin 0 ends at = rw as_ends at (begin_from_clauses ends' at start first later) in
      let counted = rows_among-begin 0 keys ends rows at same are inside in
      let entries = ap (λ (s : FlatState K). rows_among (take at s.entries)) seen in
      omega (arith, starts, counted, entries)

  pub counted_within : (keys : List K) (ends rows : List ℕ) (state : FlatState K) (at : ℕ) → length keys ≡ length ends → AreEnds 0 ends (length rows) → flat keys ends rows ≡ state
      → at ≤ length state.entries → rows_among (take at state.entries) ≤ length rows
  counted_within keys ends rows state at same are seen within =
      let all = length-entries 0 keys ends rows same in
      let long = ap (λ (s : FlatState K). length s.entries) seen in
      let inside : at ≤ length ends = omega (arith, all, long, within) in
      let counted = rows_among-begin 0 keys ends rows at same are inside in
      let entries = ap (λ (s : FlatState K). rows_among (take at s.entries)) seen in
      let low = begin_within 0 ends (length rows) at are inside in
      omega (arith, counted, entries, low)

  -- more keys have no fewer rows
  pub rows_among-rises : (es : List (K × List ℕ)) (i j : ℕ) → i ≤ j → rows_among (take i es) ≤ rows_among (take j es)
  rows_among-rises es zero j le = omega arith
  rows_among-rises es (suc i) zero le = absurd (omega arith)
  rows_among-rises [] (suc i) (suc j) le = omega arith
  rows_among-rises (e ∷ es) (suc i) (suc j) le =
      let later = rows_among-rises es i j (omega arith) in omega (arith, later)

  -- ---- the key at a place, and its rows, read from the lists
  key_within : (keys : List K) (at : ℕ) → at < length keys → (key : K) × (slice_get keys at ≡ Some key)
  key_within [] at within = absurd (omega arith)
  key_within (k ∷ ks) zero within = (k, refl)
  key_within (k ∷ ks) (suc i) within = key_within ks i (omega arith)

  pub record IsPlaced (keys : List K) (ends rows : List ℕ) (entries : List (K × List ℕ)) (at start : ℕ) : Type 0 where
    pub in_ends : at < length ends
    pub rises : start ≤ get_or ends at 0
    pub in_rows : get_or ends at 0 ≤ length rows
    pub next : get_or ends at 0 ≡ rows_among (take (at + 1) entries)
    pub key : K
    pub found : slice_get keys at ≡ Some key
    pub entry : slice_get entries at ≡ Some (key, slice_range rows start (get_or ends at 0))

  placed-here : (keys : List K) (ends rows : List ℕ) (state : FlatState K) (at start : ℕ) → length keys ≡ length ends → AreEnds 0 ends (length rows) → flat keys ends rows ≡ state
      → at < length state.entries → start ≡ rows_among (take at state.entries) → IsPlaced keys ends rows state.entries at start
  placed-here keys ends rows state at start same are seen within begins =
      let inside : at < length ends = place_within keys ends rows state at same seen within in
      let entries : entries_from 0 keys ends rows ≡ state.entries = ap (λ (s : FlatState K). s.entries) seen in
      let counted = rows_among-begin 0 keys ends rows at same are (omega (arith, inside)) in
      let counted_next : rows_among (take (suc at) (entries_from 0 keys ends rows)) + 0 ≡ get_or ends at 0 = rows_among-begin 0 keys ends rows (suc at) same are (omega (arith, inside)) in
      let begins_at : start ≡ begin 0 ends at =
      begins ∙ ap (λ (es : List (K × List ℕ)). rows_among (take at es)) (sym entries) ∙ (omega (arith, counted)) in
      let one : suc at ≡ at + 1 = omega arith in
      let ends_next : rows_among (take (suc at) (entries_from 0 keys ends rows)) ≡ rows_among (take (at + 1) state.entries) =
      ap (λ (n : ℕ). rows_among (take n (entries_from 0 keys ends rows))) one ∙ ap (λ (es : List (K × List ℕ)). rows_among (take (at + 1) es)) entries in
      let has = key_within keys at (omega (arith, inside, same)) in
      let key_of : slice_get (keys_of state.entries) at ≡ Some has.0 =
      ap (λ (es : List (K × List ℕ)). slice_get (keys_of es) at) (sym entries)
      ∙ ap (λ (ks : List K). slice_get ks at) (keys_of-entries 0 keys ends rows same)
      ∙ has.1 in
      let before = begin_before_end 0 ends (length rows) at are inside in
      record {
        in_ends = inside;
        rises = omega (arith, begins_at, before);
        in_rows = end_within 0 ends (length rows) at are inside;
        next = omega (arith, counted_next, ends_next);
        key = has.0;
        found = has.1;
        entry = flat-rows_of keys ends rows state at start (get_or ends at 0) has.0 same seen inside begins_at refl key_of;
      }

  pub placed : (keys : List K) (ends rows : List ℕ) (state : FlatState K) (at start : ℕ) (ends' rows' : List ℕ) → length keys ≡ length ends → AreEnds 0 ends (length rows)
      → flat keys ends rows ≡ state → at < length state.entries → start ≡ rows_among (take at state.entries) → ends' ≡ ends → rows' ≡ rows
      → IsPlaced keys ends' rows' state.entries at start
  placed keys ends rows state at start ends' rows' same are seen within begins as_ends as_rows =
      subst (λ (es : List ℕ). IsPlaced keys es rows' state.entries at start) (sym as_ends)
      (subst (λ (rs : List ℕ). IsPlaced keys ends rs state.entries at start) (sym as_rows) (placed-here keys ends rows state at start same are seen within begins))

  -- ---- a key put at the end with its rows
  module _ (key : K) (keys keys' : List K) (ends ends' rows rows' more : List ℕ) (laid_out : IsLaidOut keys ends rows) (longer : rows' ≡ rows ++ more) where
    pub laid_out-put : PutsKey key more (length rows') (key_ends keys ends) (key_ends keys' ends') → IsLaidOut keys' ends' rows'
    laid_out-put = by_rows more refl
      where
        still : AreEnds 0 ends (length rows')
        still = AreEnds-more 0 ends (length rows) (length rows') (omega (arith, ap length longer, length-append rows more)) laid_out.are_ends

        by_rows : (added : List ℕ) → more ≡ added → PutsKey key added (length rows') (key_ends keys ends) (key_ends keys' ends') → IsLaidOut keys' ends' rows'
        by_rows [] is puts = record {
          as_long = ap length puts.0 ∙ laid_out.as_long ∙ sym (ap length puts.1);
          are_ends = subst (λ (es : List ℕ). AreEnds 0 es (length rows')) (sym puts.1) still;
        }
        by_rows (r ∷ rs) is puts = record {
          as_long = ap length puts.0 ∙ length_push keys key ∙ ap (λ (n : ℕ). n + 1) laid_out.as_long ∙ sym (length_push ends (length rows')) ∙ sym (ap length puts.1);
          are_ends = subst (λ (es : List ℕ). AreEnds 0 es (length rows')) (sym puts.1) (AreEnds-push 0 ends (length rows') still);
        }

    pub closed-put : AreAllClosed ends rows → PutsKey key more (length rows') (key_ends keys ends) (key_ends keys' ends') → AreAllClosed ends' rows'
    closed-put closed = by_rows more refl
      where
        by_rows : (added : List ℕ) → more ≡ added → PutsKey key added (length rows') (key_ends keys ends) (key_ends keys' ends') → AreAllClosed ends' rows'
        by_rows [] is puts = ap (last_end 0) puts.1 ∙ closed ∙ sym (ap length longer ∙ ap (λ (rs : List ℕ). length (rows ++ rs)) is ∙ ap length (append-nil rows))
        by_rows (r ∷ rs) is puts = ap (last_end 0) puts.1 ∙ last_end-push 0 ends (length rows')

    pub entries-put : AreAllClosed ends rows → PutsKey key more (length rows') (key_ends keys ends) (key_ends keys' ends')
        → entries_from 0 keys' ends' rows' ≡ entries_from 0 keys ends rows ++ entry_for key more
    entries-put closed = by_rows more refl
      where
        now : entries_from 0 keys ends rows' ≡ entries_from 0 keys ends rows
        now = ap (λ (rs : List ℕ). entries_from 0 keys ends rs) longer ∙ entries-more 0 keys ends rows more laid_out.are_ends

        of_key : slice_range rows' (last_end 0 ends) (length rows') ≡ more
        of_key =
            ap (λ (n : ℕ). slice_range rows' n (length rows')) closed
            ∙ take_rest rows' (length rows)
            ∙ ap (drop (length rows)) longer
            ∙ drop-append-le (length rows) rows more (omega arith)
            ∙ ap (λ (rs : List ℕ). rs ++ more) (drop_all (length rows) rows (omega arith))

        by_rows : (added : List ℕ) → more ≡ added → PutsKey key added (length rows') (key_ends keys ends) (key_ends keys' ends')
            → entries_from 0 keys' ends' rows' ≡ entries_from 0 keys ends rows ++ entry_for key more
        by_rows [] is puts =
            ap (λ (ks : List K). entries_from 0 ks ends' rows') puts.0
            ∙ ap (λ (es : List ℕ). entries_from 0 keys es rows') puts.1
            ∙ now
            ∙ sym (ap (λ (rs : List ℕ). entries_from 0 keys ends rows ++ entry_for key rs) is ∙ append-nil (entries_from 0 keys ends rows))
        by_rows (r ∷ rs) is puts =
            ap (λ (ks : List K). entries_from 0 ks ends' rows') puts.0
            ∙ ap (λ (es : List ℕ). entries_from 0 (keys ++ key ∷ []) es rows') puts.1
            ∙ entries-push 0 keys ends rows' key (length rows') laid_out.as_long
            ∙ ap (λ (os : List ℕ). entries_from 0 keys ends rows' ++ (key, os) ∷ []) (of_key ∙ is)
            ∙ ap (λ (xs : List (K × List ℕ)). xs ++ (key, r ∷ rs) ∷ []) now
            ∙ sym (ap (λ (os : List ℕ). entries_from 0 keys ends rows ++ entry_for key os) is)
