-- What a builder's index has after a row is counted at its key, and once its keys are sorted.
use Rattle.std.proofs.Common.{◌≡◌, ℕ, suc, ◌+◌, ◌-◌, ◌<◌, ◌≢◌, Bool, true, false, cond, true≢false, eqb, List, [], ◌∷◌, ◌++◌, length, set, get_or, slice_get, ⊎_elim, IsPermutation, append-nil, Option, Some, None, Result, Ok, Err, IfOk, OnErr, is_some, unwrap_or, refl, sym, ap, subst, ◌∙◌, arith}
use Rattle.std.proofs.lemmas.Bool.{eqb-false, cases_eq}
use Rattle.std.proofs.lemmas.Cmp.{eq_by_cmp_equiv}
use Rattle.std.proofs.lemmas.List.{length-map, get_or-map}
use Rattle.std.proofs.lemmas.List.Sorted.{IsPermutation-map}
use Rattle.std.proofs.lemmas.Map.{length-set_value}
use Rattle.std.proofs.lemmas.Map.Entries.{place_from_lookup}
use Rattle.std.proofs.lemmas.Map.Steps.{set_value_same}
use Rattle.std.proofs.lemmas.Option.{slice_get_within, get_or_from_slice_get}
use Rattle.std.specs.Cmp.{IsTotalOrder, IsEquivalence}
use Rattle.std.specs.declared.cmp.Ordering.{Ordering}
use Rattle.std.specs.List.{AllByRecursion, IsDistinct, dedup}
use Rattle.std.specs.List.Sorted.{IsStrictlySortedBy}
use Rattle.std.specs.Map.{keys_of, values_of, lookup, set_value}
use Rattle.std.specs.Option.{option_map}
use Rattle.std.specs.Ordering.{is_eq, eq_by_cmp}
use Rattle.sc_segment.specs.declared.tally.Posting.{Posting}
use Rattle.sc_segment.specs.declared.tally.Tally.{Tally}
use Rattle.sc_segment.specs.Filing.{AreFiled, Counts, FilesRow, IsTallyOf, NoRowAbove, filed_entries, tally_numbers, posting_of, posting_rows, sorted_entries}
use Rattle.sc_segment.specs.Index.{HasRows}
use Rattle.sc_segment.proofs.PlacingLemmas.{differ, rows_of-other}
use Rattle.sc_segment.proofs.RowsLemmas.{same, dedup-increasing, dedup-again}
use Rattle.sc_segment.proofs.TallyLemmas.{apart_at, number_at, own_tally, own_rows, own_ascends, filed-set, new_rows, filed-new, kept_new, filed-permuted}

-- ---- the index
module _ {K : Type 0} where
  -- a key's rows are those of its number
  lookup-entries : (test : K → Bool) (es : List (K × Tally)) (ps : List Posting) → lookup test (filed_entries es ps) ≡ option_map (λ (t : Tally). posting_rows t.number ps) (lookup test es)
  lookup-entries test [] ps = refl
  lookup-entries test (e ∷ es) ps =
      elim (test e.0) as (λ b. cond b (Some (posting_rows e.1.number ps)) (lookup test (filed_entries es ps)) ≡ option_map (λ (t : Tally). posting_rows t.number ps) (cond b (Some e.1) (lookup test es))) [
        | true ↦ refl
        | false ↦ lookup-entries test es ps
      ]

  pub keys_of-entries_of : (es : List (K × Tally)) (ps : List Posting) → keys_of (filed_entries es ps) ≡ keys_of es
  keys_of-entries_of [] ps = refl
  keys_of-entries_of (e ∷ es) ps = ap (λ (ks : List K). e.0 ∷ ks) (keys_of-entries_of es ps)

  -- where a value stands that is put in
  place_put : (test : K → Bool) (es : List (K × Tally)) (v w : Tally) → lookup test es ≡ Some v
      → (i : ℕ) × (i < length (values_of es)) × ((d : Tally) → get_or (values_of es) i d ≡ v) × (values_of (set_value test es w) ≡ set (values_of es) i w)
  place_put test [] v w found = absurd (cc)
  place_put test (e ∷ es) v w found = by (test e.0) found (place_put test es v w)
    where
      by : (b : Bool) → cond b (Some e.1) (lookup test es) ≡ Some v
          → (lookup test es ≡ Some v → (i : ℕ) × (i < length (values_of es)) × ((d : Tally) → get_or (values_of es) i d ≡ v) × (values_of (set_value test es w) ≡ set (values_of es) i w))
          → (i : ℕ) × (i < length (values_of (e ∷ es))) × ((d : Tally) → get_or (values_of (e ∷ es)) i d ≡ v) × (values_of (cond b ((e.0, w) ∷ es) (e ∷ set_value test es w)) ≡ set (values_of (e ∷ es)) i w)
      by true here rest = let same : e.1 ≡ v = cc in (0, omega arith, λ d. same, refl)
      by false there later =
          let rest = later there in
          (suc rest.0, (let low = rest.1 in omega (arith, low)), rest.2, ap (λ (ts : List Tally). e.1 ∷ ts) rest.3)

  -- the value at a place
  value_at : (es : List (K × Tally)) (i : ℕ) (k : K) (t : Tally) → slice_get es i ≡ Some (k, t) → (i < length (values_of es)) × (get_or (values_of es) i t ≡ t)
  value_at es i k t at =
      let long = length-map es (λ (e : K × Tally). e.1) in
      let within = slice_get_within es i (k, t) at in (
        omega (arith, long, within),
        get_or-map (λ (e : K × Tally). e.1) es i (k, t) t within ∙ ap (λ (e : K × Tally). e.1) (get_or_from_slice_get es i (k, t) (k, t) at),
      )

  -- keys of one number are one key
  one_key : {eq : K → K → Bool} → IsEquivalence eq → (es : List (K × Tally)) → IsDistinct eqb (tally_numbers (values_of es)) → (p q : K) (t v : Tally)
      → lookup (eq p) es ≡ Some t → lookup (eq q) es ≡ Some v → t.number ≡ v.number → eq q p ≡ true
  one_key {eq} laws es distinct p q t v here there number =
      let a = place_from_lookup (eq p) es t here in
      let b = place_from_lookup (eq q) es v there in
      let read_a = value_at es a.0 a.1 t a.2 in
      let read_b = value_at es b.0 b.1 v b.2 in
      let number_a : get_or (tally_numbers (values_of es)) a.0 0 ≡ t.number = number_at (values_of es) a.0 t read_a.0 ∙ ap (λ (s : Tally). s.number) read_a.1 in
      let number_b : get_or (tally_numbers (values_of es)) b.0 0 ≡ v.number = number_at (values_of es) b.0 v read_b.0 ∙ ap (λ (s : Tally). s.number) read_b.1 in
      let low_a = read_a.0 in
      let low_b = read_b.0 in
      let long = length-map (values_of es) (λ (s : Tally). s.number) in
      ⊎_elim
      (λ (one : a.0 ≡ b.0).
      let both : Some (a.1, t) ≡ Some (b.1, v) = sym a.2 ∙ ap (slice_get es) one ∙ b.2 in
      let keys : a.1 ≡ b.1 = ap (λ (found : Option (K × Tally)). (unwrap_or found (a.1, t)).0) both in
      laws.congr q b.1 p b.3 ∙ laws.symm b.1 p ∙ ap (eq p) (sym keys) ∙ a.3)
      (λ (apart : a.0 ≢ b.0). absurd (eqb-false (get_or (tally_numbers (values_of es)) a.0 0) (get_or (tally_numbers (values_of es)) b.0 0)
      (apart_at (tally_numbers (values_of es)) a.0 b.0 distinct apart (omega (arith, long, low_a)) (omega (arith, long, low_b)))
      (number_a ∙ number ∙ sym number_b)))
      (cases_eq a.0 b.0)

  -- a row is filed, where the key has it among the new postings, and other keys have the same rows as before
  module _ (cmp : K → K → Ordering) (es fs : List (K × Tally)) (ps qs : List Posting) (row : ℕ) (key : K) (w : Tally) (updates : (q : K) → lookup (eq_by_cmp cmp q) fs ≡ cond (eq_by_cmp cmp key q) (Some w) (lookup (eq_by_cmp cmp q) es))
      (own : posting_rows w.number qs ≡ dedup same (unwrap_or (option_map (λ (t : Tally). posting_rows t.number ps) (lookup (eq_by_cmp cmp key) es)) [] ++ row ∷ []))
      (others : (q : K) (t : Tally) → eq_by_cmp cmp key q ≡ false → lookup (eq_by_cmp cmp q) es ≡ Some t → posting_rows t.number qs ≡ posting_rows t.number ps)
      (size : length fs ≡ length es + cond (is_some (lookup (eq_by_cmp cmp key) es)) 0 1) where
    kept_found : (q : K) → eq_by_cmp cmp key q ≡ false → (r : Option Tally) → lookup (eq_by_cmp cmp q) es ≡ r → option_map (λ (t : Tally). posting_rows t.number qs) r ≡ option_map (λ (t : Tally). posting_rows t.number ps) r
    kept_found q apart None at = refl
    kept_found q apart (Some t) at = ap Some (others q t apart at)

    some-entries : (r : Option Tally) → is_some (option_map (λ (t : Tally). posting_rows t.number ps) r) ≡ is_some r
    some-entries None = refl
    some-entries (Some t) = refl

    by_test : (q : K) (b : Bool) → eq_by_cmp cmp key q ≡ b → option_map (λ (t : Tally). posting_rows t.number qs) (cond b (Some w) (lookup (eq_by_cmp cmp q) es))
        ≡ cond b (Some (dedup same (unwrap_or (option_map (λ (t : Tally). posting_rows t.number ps) (lookup (eq_by_cmp cmp key) es)) [] ++ row ∷ []))) (option_map (λ (t : Tally). posting_rows t.number ps) (lookup (eq_by_cmp cmp q) es))
    by_test q true is = ap Some own
    by_test q false is = kept_found q is (lookup (eq_by_cmp cmp q) es) refl

    FilesRow-counted : FilesRow cmp row key (filed_entries es ps) (filed_entries fs qs)
    FilesRow-counted = record {
      lists = λ q.
          lookup-entries (eq_by_cmp cmp q) fs qs
          ∙ ap (option_map (λ (t : Tally). posting_rows t.number qs)) (updates q)
          ∙ by_test q (eq_by_cmp cmp key q) refl
          ∙ ap (λ (r : Option (List ℕ)). cond (eq_by_cmp cmp key q) (Some (dedup same (unwrap_or r [] ++ row ∷ []))) (option_map (λ (t : Tally). posting_rows t.number ps) (lookup (eq_by_cmp cmp q) es))) (sym (lookup-entries (eq_by_cmp cmp key) es ps))
          ∙ ap (λ (r : Option (List ℕ)). cond (eq_by_cmp cmp key q) (Some (dedup same (unwrap_or (lookup (eq_by_cmp cmp key) (filed_entries es ps)) [] ++ row ∷ []))) r) (sym (lookup-entries (eq_by_cmp cmp q) es ps));
      size =
          let long = length-map fs (λ (e : K × Tally). (e.0, posting_rows e.1.number qs)) in
          let long' = length-map es (λ (e : K × Tally). (e.0, posting_rows e.1.number ps)) in
          let as_some = ap is_some (lookup-entries (eq_by_cmp cmp key) es ps) ∙ some-entries (lookup (eq_by_cmp cmp key) es) in
          long ∙ size ∙ ap (λ (n : ℕ). n + cond (is_some (lookup (eq_by_cmp cmp key) es)) 0 1) (sym long')
          ∙ ap (λ (b : Bool). length (filed_entries es ps) + cond b 0 1) (sym as_some);
    }

-- ---- a row counted at its key
module _ {K : Type 0} (eq : K → K → Bool) (cmp : K → K → Ordering) (one : eq ≡ eq_by_cmp cmp) (o : IsTotalOrder cmp) (old new : List (K × Tally)) (row : ℕ) (key : K) (w : Tally)
    (updates : (q : K) → lookup (eq q) new ≡ cond (eq key q) (Some w) (lookup (eq q) old)) (ps : List Posting) (filed : AreFiled (values_of old) ps) (bound : NoRowAbove row ps) where
  by_cmp : (q : K) → lookup (eq_by_cmp cmp q) new ≡ cond (eq_by_cmp cmp key q) (Some w) (lookup (eq_by_cmp cmp q) old)
  by_cmp = rw one at updates

  -- what a key has, by whether it was found
  abbrev rows_found : Option Tally → List ℕ
  rows_found r = dedup same (unwrap_or (option_map (λ (t : Tally). posting_rows t.number ps) r) [] ++ row ∷ [])

  -- the key is there
  module _ (v : Tally) (found : lookup (eq key) old ≡ Some v) (put : new ≡ set_value (eq key) old w) where
    at_key : lookup (eq_by_cmp cmp key) old ≡ Some v
    at_key = rw one at found

    as_many : length new ≡ length old + cond (is_some (lookup (eq_by_cmp cmp key) old)) 0 1
    as_many =
        let long = ap length put ∙ length-set_value (eq key) old w in
        long ∙ add_none (length old) ∙ ap (λ (r : Option Tally). length old + cond (is_some r) 0 1) (sym at_key)
      where
        add_none : (n : ℕ) → n ≡ n + 0
        add_none n = omega arith

    again : v.last ≡ row → w ≡ v → AreFiled (values_of new) (ps ++ []) × FilesRow cmp row key (filed_entries old ps) (filed_entries new (ps ++ []))
    again last unchanged =
        let stays : new ≡ old = put ∙ set_value_same (eq key) old w (found ∙ ap Some (sym unchanged)) in
        let rows = posting_rows v.number ps in
        let there = place_put (eq key) old v w found in
        let tally = own_tally (values_of old) ps filed row bound there.0 v v there.1 there.2 refl in
        let repeated : dedup same (rows ++ row ∷ []) ≡ rows = dedup-again rows row tally.ascending (tally.last ∙ ap Some last) in
        let own : posting_rows w.number (ps ++ []) ≡ rows_found (lookup (eq_by_cmp cmp key) old) =
        ap (λ (t : Tally). posting_rows t.number (ps ++ [])) unchanged ∙ ap (posting_rows v.number) (append-nil ps) ∙ sym repeated ∙ ap rows_found (sym at_key) in (
          subst (λ (es : List (K × Tally)). AreFiled (values_of es) (ps ++ [])) (sym stays) (subst (AreFiled (values_of old)) (sym (append-nil ps)) filed),
          FilesRow-counted cmp old new ps (ps ++ []) row key w by_cmp own (λ q t apart at. ap (posting_rows t.number) (append-nil ps)) as_many,
        )

    once_more : v.last ≢ row → w.number ≡ v.number → w.count ≡ v.count + 1 → w.last ≡ row
        → AreFiled (values_of new) (ps ++ record { number = v.number; row = row } ∷ []) × FilesRow cmp row key (filed_entries old ps) (filed_entries new (ps ++ record { number = v.number; row = row } ∷ []))
    once_more apart number count last =
        let more : Posting = record { number = v.number; row = row } in
        let rows = posting_rows v.number ps in
        let there = place_put (eq key) old v w found in
        let values : values_of new ≡ set (values_of old) there.0 w = ap values_of put ∙ there.3 in
        let ascends = own_ascends (values_of old) ps filed row bound there.0 v w there.1 there.2 number apart in
        let own : posting_rows w.number (ps ++ more ∷ []) ≡ rows_found (lookup (eq_by_cmp cmp key) old) =
        own_rows (values_of old) ps filed row bound there.0 v w there.1 there.2 number ∙ sym (dedup-increasing (rows ++ row ∷ []) ascends) ∙ ap rows_found (sym at_key) in (
          subst (λ (ts : List Tally). AreFiled ts (ps ++ more ∷ [])) (sym values) (filed-set (values_of old) ps filed row bound there.0 v w there.1 there.2 number apart count last),
          FilesRow-counted cmp old new ps (ps ++ more ∷ []) row key w by_cmp own
              (λ q t differs at. rows_of-other t.number ps more (differ t.number v.number (λ is.
              true≢false (sym (one_key (eq_by_cmp_equiv o) old filed.numbered.distinct q key t v at at_key is) ∙ differs))))
              as_many,
        )

    pub found_counted : (number : Option ℕ) → Counts row v w number
        → AreFiled (values_of new) (ps ++ posting_of number row) × FilesRow cmp row key (filed_entries old ps) (filed_entries new (ps ++ posting_of number row))
    found_counted None counts = again counts.0 counts.1
    found_counted (Some number) counts =
        subst (λ (n : ℕ). AreFiled (values_of new) (ps ++ record { number = n; row = row } ∷ []) × FilesRow cmp row key (filed_entries old ps) (filed_entries new (ps ++ record { number = n; row = row } ∷ [])))
        (sym counts.1) (once_more counts.0 counts.2 counts.3 counts.4)

  -- the key is new
  module _ (missed : lookup (eq key) old ≡ None) (put : IsPermutation ((key, w) ∷ old) new) (as_long : length new ≡ length old + 1) (next : w.number ≡ length old) (count : w.count ≡ 1) (last : w.last ≡ row) where
    not_there : lookup (eq_by_cmp cmp key) old ≡ None
    not_there = rw one at missed

    next_value : w.number ≡ length (values_of old)
    next_value = next ∙ sym (length-map old (λ (e : K × Tally). e.1))

    pub new_counted : AreFiled (values_of new) (ps ++ posting_of (Some w.number) row)
        × FilesRow cmp row key (filed_entries old ps) (filed_entries new (ps ++ posting_of (Some w.number) row))
    new_counted =
        let first : Posting = record { number = w.number; row = row } in
        let own : posting_rows w.number (ps ++ first ∷ []) ≡ rows_found (lookup (eq_by_cmp cmp key) old) =
        new_rows (values_of old) ps filed row bound w next_value count last ∙ ap rows_found (sym not_there) in (
          filed-permuted (w ∷ values_of old) (values_of new) (ps ++ first ∷ []) (IsPermutation-map (λ (e : K × Tally). e.1) ((key, w) ∷ old) new put)
              (filed-new (values_of old) ps filed row bound w next_value count last),
          FilesRow-counted cmp old new ps (ps ++ first ∷ []) row key w by_cmp own
              (λ q t differs at.
              let there = place_from_lookup (eq_by_cmp cmp q) old t at in
              let read = value_at old there.0 there.1 t there.2 in
              subst (λ (s : Tally). posting_rows s.number (ps ++ first ∷ []) ≡ posting_rows s.number ps) read.1
              (kept_new (values_of old) ps filed row bound w next_value count last there.0 t read.0))
              (as_long ∙ ap (λ (r : Option Tally). length old + cond (is_some r) 0 1) (sym not_there)),
        )

-- the keys of an index that is made of tallies have rows, which ascend
pub HasRows-entries : {K : Type 0} (es : List (K × Tally)) (ps : List Posting) → AllByRecursion (λ t. IsTallyOf (posting_rows t.number ps) t) (values_of es) → AllByRecursion HasRows (filed_entries es ps)
HasRows-entries [] ps all = tt
HasRows-entries (e ∷ es) ps all =
    let rows = posting_rows e.1.number ps in
    let within : length rows - 1 < length rows = slice_get_within rows (length rows - 1) e.1.last all.0.last in
    ((omega (arith, within), all.0.ascending), HasRows-entries es ps all.1)

pub IfOk_then : {T E : Type 0} (P Q : T → Type 0) (r : Result T E) → ((x : T) → P x → Q x) → IfOk r P → IfOk r Q
IfOk_then P Q (Ok x) f h = f x h
IfOk_then P Q (Err e) f h = h

pub OnErr_then : {T E : Type 0} {P Q : Type 0} (r : Result T E) → (P → Q) → OnErr r P → OnErr r Q
OnErr_then (Ok x) f h = h
OnErr_then (Err e) f h = f h

-- a test of keys that answers as an order of theirs does
pub eq-by_cmp : {K : Type 0} (eq : K → K → Bool) (cmp : K → K → Ordering) → ((x y : K) → eq x y ≡ is_eq (cmp x y)) → eq ≡ eq_by_cmp cmp
eq-by_cmp eq cmp same = λ i x y. same x y i

-- orders that compare alike are one
alike : {K : Type 0} {cmp order : K → K → Ordering} → ((x y : K) → cmp x y ≡ order x y) → cmp ≡ order
alike same = λ i x y. same x y i

pub FilesRow-alike : {K : Type 0} {cmp order : K → K → Ordering} → ((x y : K) → cmp x y ≡ order x y) → (row : ℕ) (key : K) (old new : List (K × List ℕ))
    → FilesRow cmp row key old new → FilesRow order row key old new
FilesRow-alike same row key old new filed = rw (alike same) at filed

pub IsStrictlySortedBy-alike : {K : Type 0} {cmp order : K → K → Ordering} → ((x y : K) → cmp x y ≡ order x y) → (ks : List K)
    → IsStrictlySortedBy cmp ks → IsStrictlySortedBy order ks
IsStrictlySortedBy-alike same ks sorted = rw (alike same) at sorted

pub sorted_entries-alike : {K : Type 0} {cmp order : K → K → Ordering} → ((x y : K) → cmp x y ≡ order x y) → (entries : List (K × List ℕ))
    → sorted_entries cmp entries ≡ sorted_entries order entries
sorted_entries-alike same entries = ap (λ by. sorted_entries by entries) (alike same)
