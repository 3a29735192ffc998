-- Rows that have of the terms of the field of ids that of their own id alone, and their other terms.
use Rattle.std.proofs.Common.{◌≡◌, ℕ, zero, suc, ◌+◌, ◌-◌, ◌≤◌, ◌==◌, Bool, true, false, true≢false, cond, not, is_some, ◌&&◌, ◌||◌, List, [], ◌∷◌, ◌++◌, filter, map, length, slice_get, Option, Some, None, refl, sym, ap, subst, ◌∙◌, arith, ⊎_elim}
use Rattle.std.specs.Prelude.{codes}
use Rattle.std.proofs.lemmas.Bool.{and_parts, and_from, cases_lt}
use Rattle.std.proofs.lemmas.Bool.Decides.{nat_tests}
use Rattle.std.proofs.lemmas.Cmp.{nat_list_eq_equiv}
use Rattle.std.proofs.lemmas.List.Elements.{filter-append}
use Rattle.std.proofs.lemmas.List.Folds.{list_any-append}
use Rattle.std.proofs.lemmas.Slice.Eq.{bytes_eq-Decides}
use Rattle.std.specs.List.{list_all, list_any, AllByRecursion}
use Rattle.std.specs.Ordering.{is_eq}
use Rattle.std.specs.Str.{bytes_eq}
use Rattle.sc_record.specs.declared.term.Term.{Term}
use Rattle.sc_record.specs.Writes.{Write, AscendById}
use Rattle.sc_record.proofs.TermLemmas.{same_term, same_term-equal}
use Rattle.sc_rows.proofs.JoinLemmas.{AscendFrom, ascend_from_increasing}
use Rattle.sc_rows.specs.Joining.{has_row}
use Rattle.sc_segment.specs.Index.{distinct_keys}
use Rattle.sc_snapshot.specs.Edits.{put_in, edited, AreAbove, AreInOrder}
use Rattle.sc_snapshot.specs.Keys.{key_cmp}
use Rattle.sc_snapshot.specs.Postings.{key_order, keyed, keyed_rows, live_terms, has_term, term_count, is_live_at, is_live_of, is_id_term, is_no_other_id, is_id_alone, has_id_alone, AreIdsFound, other_terms, without_ids, AreLiveRows}
use Rattle.sc_snapshot.specs.declared.edits.Edit.{Edit}
use Rattle.sc_snapshot.specs.declared.term_key.TermKey.{TermKey}
use Rattle.sc_snapshot.proofs.EditedLemmas.{each-edited}
use Rattle.sc_snapshot.proofs.KeyLemmas.{same_key-ties}
use Rattle.sc_snapshot.proofs.PartLemmas.{each-passing}
use Rattle.sc_snapshot.proofs.PlaceLemmas.{Ascend, ascend-from, higher_id}

-- ---- terms that are one
-- terms of which one is of the field of ids alone are two
two_terms : (one other : Term) (b : Bool) → is_id_term one ≡ b → is_id_term other ≡ not b → same_term one other ≡ false
two_terms one other b is is_not = by_test (same_term one other) refl
  where
    opposite : (x : Bool) → x ≡ not x → ⊥
    opposite true h = true≢false h
    opposite false h = true≢false (sym h)

    by_test : (s : Bool) → same_term one other ≡ s → s ≡ false
    by_test true h = absurd (opposite b (sym is ∙ ap is_id_term (same_term-equal one other h) ∙ is_not))
    by_test false h = refl

-- two terms of the field of ids are one by their keys
by_keys : (one other : Term) → is_id_term one ≡ true → is_id_term other ≡ true → same_term one other ≡ bytes_eq one.key other.key
by_keys one other is also =
    let here = (bytes_eq-Decides one.field (codes "id")).0 is in
    let there = (bytes_eq-Decides other.field (codes "id")).0 also in
    ap (λ b. b && bytes_eq one.key other.key) ((bytes_eq-Decides one.field other.field).1 (here ∙ sym there))

-- ---- a row's own id
or_and : (e a : Bool) → (e || (a && e)) ≡ e
or_and true a = refl
or_and false true = refl
or_and false false = refl

and-false : (b : Bool) → (b && false) ≡ false
and-false true = refl
and-false false = refl

-- where each of the terms of the field of ids is that of the id
own_terms : (id : List ℕ) (term : Term) → is_id_term term ≡ true → (terms : List Term)
    → list_all (is_no_other_id id) terms ≡ true
    → list_any (same_term term) terms ≡ (list_any is_id_term terms && bytes_eq id term.key)
own_terms id term is [] all = refl
own_terms id term is (t ∷ terms) all =
    let parts = and_parts (is_no_other_id id t) (list_all (is_no_other_id id) terms) all in
    ap (λ b. same_term term t || b) (own_terms id term is terms parts.1) ∙ by_field (is_id_term t) refl parts.0
  where
    by_field : (b : Bool) → is_id_term t ≡ b → (not (is_id_term t) || bytes_eq t.key id) ≡ true
        → (same_term term t || (list_any is_id_term terms && bytes_eq id term.key)) ≡ ((is_id_term t || list_any is_id_term terms) && bytes_eq id term.key)
    by_field false other own = rw (two_terms term t true is other, other) refl
    by_field true here own =
        let same : t.key ≡ id = (bytes_eq-Decides t.key id).0 (ap (λ b. not b || bytes_eq t.key id) (sym here) ∙ own) in
        let equal : same_term term t ≡ bytes_eq id term.key =
        by_keys term t is here ∙ ap (bytes_eq term.key) same ∙ nat_list_eq_equiv.symm term.key id in
        rw (equal, here) (or_and (bytes_eq id term.key) (list_any is_id_term terms))

-- such a row is found by its own id, and by no other term of the field of ids
pub alone : (row : Write) → has_id_alone row ≡ true → (term : Term) → is_id_term term ≡ true → has_term term (Some row) ≡ is_live_of term.key (Some row)
alone row has term is = by_live (is_some row.doc) has
  where
    by_live : (b : Bool) → (not b || is_id_alone row.id row.terms) ≡ true
        → list_any (same_term term) (cond b row.terms []) ≡ (b && bytes_eq row.id term.key)
    by_live false h = refl
    by_live true h =
        let parts = and_parts (list_any is_id_term row.terms) (list_all (is_no_other_id row.id) row.terms) h in
        own_terms row.id term is row.terms parts.1 ∙ ap (λ b. b && bytes_eq row.id term.key) parts.0

-- and so is each of these rows
pub alone-at : (rows : List Write) → list_all has_id_alone rows ≡ true → (term : Term) → is_id_term term ≡ true → (number : ℕ)
    → has_term term (slice_get rows number) ≡ is_live_of term.key (slice_get rows number)
alone-at [] all term is zero = refl
alone-at [] all term is (suc number) = refl
alone-at (row ∷ rows) all term is zero = alone row (and_parts (has_id_alone row) (list_all has_id_alone rows) all).0 term is
alone-at (row ∷ rows) all term is (suc number) = alone-at rows (and_parts (has_id_alone row) (list_all has_id_alone rows) all).1 term is number

-- ---- which rows are such
-- where rows are not found in an index of all terms, each is found by its own id
pub alone-from : (rows : List Write) (whole : Option (List (TermKey × List ℕ))) → is_some whole ≡ false → AreIdsFound rows whole → list_all has_id_alone rows ≡ true
alone-from rows None none found = found
alone-from rows (Some whole) none found = absurd (true≢false none)

all-to-each : {X : Type 0} (p : X → Bool) (xs : List X) → list_all p xs ≡ true → AllByRecursion (λ x. p x ≡ true) xs
all-to-each p [] all = tt
all-to-each p (x ∷ xs) all = let parts = and_parts (p x) (list_all p xs) all in (parts.0, all-to-each p xs parts.1)

each-to-all : {X : Type 0} (p : X → Bool) (xs : List X) → AllByRecursion (λ x. p x ≡ true) xs → list_all p xs ≡ true
each-to-all p [] each = refl
each-to-all p (x ∷ xs) each = and_from (p x) (list_all p xs) each.0 (each-to-all p xs each.1)

put_each : (edits : List Edit) → AllByRecursion (λ (edit : Edit). has_id_alone (put_in edit) ≡ true) edits
    → AllByRecursion (λ (row : Write). has_id_alone row ≡ true) (map put_in edits)
put_each [] each = tt
put_each (edit ∷ edits) each = (each.0, put_each edits each.1)

-- the rows after edits are
pub alone-edited : (old : List Write) (edits : List Edit) → AreInOrder (length old) 0 edits → list_all has_id_alone old ≡ true
    → list_all (λ (edit : Edit). has_id_alone (put_in edit)) edits ≡ true → list_all has_id_alone (edited old 0 edits) ≡ true
alone-edited old edits in_order rows changes =
    each-to-all has_id_alone (edited old 0 edits)
    (each-edited (λ (row : Write). has_id_alone row ≡ true) old 0 edits in_order (all-to-each has_id_alone old rows)
    (put_each edits (all-to-each (λ (edit : Edit). has_id_alone (put_in edit)) edits changes)))

-- and those that pass a test
pub alone-passing : (p : Write → Bool) (rows : List Write) → list_all has_id_alone rows ≡ true → list_all has_id_alone (filter p rows) ≡ true
alone-passing p rows all =
    each-to-all has_id_alone (filter p rows) (each-passing p (λ (row : Write). has_id_alone row ≡ true) rows (all-to-each has_id_alone rows all))

-- ---- the other terms
pub live-others : (row : Write) → live_terms (without_ids row) ≡ other_terms (live_terms row)
live-others row = elim (is_some row.doc) as (λ b. cond b (other_terms row.terms) [] ≡ other_terms (cond b row.terms [])) [ true ↦ refl | false ↦ refl ]

any-others : (term : Term) → is_id_term term ≡ false → (terms : List Term) → list_any (same_term term) (other_terms terms) ≡ list_any (same_term term) terms
any-others term other [] = refl
any-others term other (t ∷ terms) = by_field (any-others term other terms) (is_id_term t) refl
  where
    by_field : list_any (same_term term) (other_terms terms) ≡ list_any (same_term term) terms → (b : Bool) → is_id_term t ≡ b
        → list_any (same_term term) (cond (not (is_id_term t)) (t ∷ other_terms terms) (other_terms terms)) ≡ (same_term term t || list_any (same_term term) terms)
    by_field rest true here = rw (here, two_terms term t false other here) rest
    by_field rest false there = rw there (ap (λ b. same_term term t || b) rest)

-- a row is found by another term whether those of the field of ids are there or not
pub has_term-others : (term : Term) → is_id_term term ≡ false → (rows : List Write) (number : ℕ)
    → has_term term (slice_get (map without_ids rows) number) ≡ has_term term (slice_get rows number)
has_term-others term other [] zero = refl
has_term-others term other [] (suc number) = refl
has_term-others term other (row ∷ rows) zero = ap (list_any (same_term term)) (live-others row) ∙ any-others term other (live_terms row)
has_term-others term other (row ∷ rows) (suc number) = has_term-others term other rows number

-- ---- keys of other terms
abbrev is_other : ℕ × TermKey → Bool
is_other p = not (is_id_term p.1.term)

keyed-others : (number : ℕ) (terms : List Term) → keyed number (other_terms terms) ≡ filter is_other (keyed number terms)
keyed-others number [] = refl
keyed-others number (term ∷ terms) =
    let rest = keyed-others number terms in
    elim (is_id_term term) as (λ b. keyed number (cond (not b) (term ∷ other_terms terms) (other_terms terms))
    ≡ cond (not b) ((number, record { term = term }) ∷ filter is_other (keyed number terms)) (filter is_other (keyed number terms))) [
      | true ↦ rest
      | false ↦ ap (λ (ps : List (ℕ × TermKey)). (number, record { term = term }) ∷ ps) rest
    ]

rows-others : (from : ℕ) (rows : List Write) → keyed_rows from (map without_ids rows) ≡ filter is_other (keyed_rows from rows)
rows-others from [] = refl
rows-others from (row ∷ rows) =
    ap (λ (ts : List Term). keyed from ts ++ keyed_rows (from + 1) (map without_ids rows)) (live-others row)
    ∙ ap (λ (ps : List (ℕ × TermKey)). ps ++ keyed_rows (from + 1) (map without_ids rows)) (keyed-others from (live_terms row))
    ∙ ap (λ (ps : List (ℕ × TermKey)). filter is_other (keyed from (live_terms row)) ++ ps) (rows-others (from + 1) rows)
    ∙ sym (filter-append is_other (keyed from (live_terms row)) (keyed_rows (from + 1) rows))

-- ---- how many keys there are
abbrev count : List (ℕ × TermKey) → ℕ
count ps = distinct_keys key_order ps

-- one of these keys is of the term
abbrev any_key : Term → List (ℕ × TermKey) → Bool
any_key term ps = list_any (λ (q : ℕ × TermKey). is_eq (key_cmp term q.1.term)) ps

more_or_not : (b : Bool) (x y : ℕ) → x ≤ y → x ≤ cond b y (y + 1)
more_or_not true x y le = le
more_or_not false x y le = omega (arith, le)

both_more : (b : Bool) (x y : ℕ) → x ≤ y → cond b x (x + 1) ≤ cond b y (y + 1)
both_more true x y le = le
both_more false x y le = omega (arith, le)

any-filter : (term : Term) → is_id_term term ≡ false → (ps : List (ℕ × TermKey)) → any_key term (filter is_other ps) ≡ any_key term ps
any-filter term other [] = refl
any-filter term other (p ∷ ps) = by_field (any-filter term other ps) (is_id_term p.1.term) refl
  where
    by_field : any_key term (filter is_other ps) ≡ any_key term ps → (b : Bool) → is_id_term p.1.term ≡ b
        → any_key term (cond (not (is_id_term p.1.term)) (p ∷ filter is_other ps) (filter is_other ps)) ≡ (is_eq (key_cmp term p.1.term) || any_key term ps)
    by_field rest true here =
        let apart : is_eq (key_cmp term p.1.term) ≡ false = sym (same_key-ties term p.1.term) ∙ two_terms term p.1.term false other here in
        rw (here, apart) rest
    by_field rest false there = rw there (ap (λ b. is_eq (key_cmp term p.1.term) || b) rest)

fewer : (ps : List (ℕ × TermKey)) → count (filter is_other ps) ≤ count ps
fewer [] = omega arith
fewer (p ∷ ps) = by_field (fewer ps) (is_id_term p.1.term) refl
  where
    by_field : count (filter is_other ps) ≤ count ps → (b : Bool) → is_id_term p.1.term ≡ b
        → count (cond (not (is_id_term p.1.term)) (p ∷ filter is_other ps) (filter is_other ps)) ≤ count (p ∷ ps)
    by_field rest true here = rw here (more_or_not (any_key p.1.term ps) (count (filter is_other ps)) (count ps) rest)
    by_field rest false there =
        let same = any-filter p.1.term there ps in
        rw (there, same) (both_more (any_key p.1.term ps) (count (filter is_other ps)) (count ps) rest)

-- there are no more keys of other terms than of all
pub count-others : (rows : List Write) → count (keyed_rows 0 (map without_ids rows)) ≤ term_count rows
count-others rows = subst (λ (ps : List (ℕ × TermKey)). count ps ≤ term_count rows) (sym (rows-others 0 rows)) (fewer (keyed_rows 0 rows))

-- ---- each live row has a key of its own
no_fewer : (xs ys : List (ℕ × TermKey)) → count ys ≤ count (xs ++ ys)
no_fewer [] ys = omega arith
no_fewer (x ∷ xs) ys = more_or_not (any_key x.1.term (xs ++ ys)) (count ys) (count (xs ++ ys)) (no_fewer xs ys)

one_more : (term : Term) (xs ys : List (ℕ × TermKey)) → any_key term xs ≡ true → any_key term ys ≡ false → count ys + 1 ≤ count (xs ++ ys)
one_more term [] ys has none = absurd (true≢false (sym has))
one_more term (x ∷ xs) ys has none = by_key (λ later. one_more term xs ys later none) (is_eq (key_cmp term x.1.term)) refl has
  where
    by_rest : (any_key term xs ≡ true → count ys + 1 ≤ count (xs ++ ys)) → term ≡ x.1.term → (b : Bool) → any_key term xs ≡ b → count ys + 1 ≤ count (x ∷ xs ++ ys)
    by_rest rest same true later = more_or_not (any_key x.1.term (xs ++ ys)) (count ys + 1) (count (xs ++ ys)) (rest later)
    by_rest rest same false first =
        let none_after : any_key x.1.term (xs ++ ys) ≡ false =
        ap (λ t. any_key t (xs ++ ys)) (sym same)
        ∙ list_any-append (λ (q : ℕ × TermKey). is_eq (key_cmp term q.1.term)) xs ys ∙ rw (first, none) refl in
        let all = no_fewer xs ys in
        rw none_after (omega (arith, all))

    by_key : (any_key term xs ≡ true → count ys + 1 ≤ count (xs ++ ys)) → (b : Bool) → is_eq (key_cmp term x.1.term) ≡ b → (b || any_key term xs) ≡ true
        → count ys + 1 ≤ count (x ∷ xs ++ ys)
    by_key rest true here _ = by_rest rest (same_term-equal term x.1.term (same_key-ties term x.1.term ∙ here)) (any_key term xs) refl
    by_key rest false there later = more_or_not (any_key x.1.term (xs ++ ys)) (count ys + 1) (count (xs ++ ys)) (rest later)

any-keyed : (term : Term) (number : ℕ) (terms : List Term) → any_key term (keyed number terms) ≡ list_any (same_term term) terms
any-keyed term number [] = refl
any-keyed term number (t ∷ terms) = rw (any-keyed term number terms, ← same_key-ties term t) refl

-- the term of an id
abbrev id_term : List ℕ → Term
id_term id = record { field = codes "id"; key = id }

itself : (x : List ℕ) → bytes_eq x x ≡ true
itself x = (bytes_eq-Decides x x).1 refl

-- rows above an id don't have its term
none_above : (id : List ℕ) (from : ℕ) (rows : List Write) → AreAbove id rows → list_all has_id_alone rows ≡ true → any_key (id_term id) (keyed_rows from rows) ≡ false
none_above id from [] above all = refl
none_above id from (row ∷ rows) above all =
    let parts = and_parts (has_id_alone row) (list_all has_id_alone rows) all in
    let here : any_key (id_term id) (keyed from (live_terms row)) ≡ false =
    any-keyed (id_term id) from (live_terms row) ∙ alone row parts.0 (id_term id) (itself (codes "id"))
    ∙ ap (λ b. is_some row.doc && b) (higher_id row.id id above.0) ∙ and-false (is_some row.doc) in
    list_any-append (λ (q : ℕ × TermKey). is_eq (key_cmp (id_term id) q.1.term)) (keyed from (live_terms row)) (keyed_rows (from + 1) rows)
    ∙ rw (here, none_above id (from + 1) rows above.1 parts.1) refl

same_number : (x : ℕ) → (x == x) ≡ true
same_number x = grind (arith, nat_tests)

or-true : (b : Bool) → (b || true) ≡ true
or-true true = refl
or-true false = refl

not_live : (k : ℕ) → is_live_at (slice_get [] k) ≡ true → ⊥
not_live zero h = true≢false (sym h)
not_live (suc k) h = true≢false (sym h)

each_own : (from : ℕ) (rows : List Write) (numbers : List ℕ) → Ascend rows → list_all has_id_alone rows ≡ true → AscendFrom from numbers
    → ((k : ℕ) → has_row numbers (from + k) ≡ true → is_live_at (slice_get rows k) ≡ true) → length numbers ≤ count (keyed_rows from rows)
each_own from rows [] ascend all up live = omega arith
each_own from [] (x ∷ xs) ascend all up live =
    let low = up.0 in
    let place : x ≡ from + (x - from) = omega (arith, low) in
    absurd (not_live (x - from) (live (x - from) (subst (λ n. has_row (x ∷ xs) n ≡ true) place (ap (λ b. b || has_row xs x) (same_number x)))))
each_own from (row ∷ rows) (x ∷ xs) ascend all up live =
    let parts = and_parts (has_id_alone row) (list_all has_id_alone rows) all in
    let more : (k : ℕ) → from + 1 + k ≡ from + suc k = λ k. omega arith in
    let low = up.0 in
    ⊎_elim
    (λ later.
    let first : from + 1 ≤ x = omega (arith, later) in
    let rest = each_own (from + 1) rows (x ∷ xs) ascend.1 parts.1 (first, up.1)
    (λ k has. live (suc k) (subst (λ n. has_row (x ∷ xs) n ≡ true) (more k) has)) in
    let all_keys = no_fewer (keyed from (live_terms row)) (keyed_rows (from + 1) rows) in
    omega (arith, rest, all_keys))
    (λ here.
    let same : x ≡ from = omega (arith, here, low) in
    let rest = each_own (from + 1) rows xs ascend.1 parts.1 (subst (λ n. AscendFrom (n + 1) xs) same up.1)
    (λ k has. live (suc k) (ap (λ b. (x == from + suc k) || b) (subst (λ n. has_row xs n ≡ true) (more k) has) ∙ or-true (x == from + suc k))) in
    let zeroth : from ≡ from + 0 = omega arith in
    let is_live : is_some row.doc ≡ true =
    live 0 (subst (λ n. has_row (x ∷ xs) n ≡ true) (same ∙ zeroth) (ap (λ b. b || has_row xs x) (same_number x))) in
    let own : any_key (id_term row.id) (keyed from (live_terms row)) ≡ true =
    any-keyed (id_term row.id) from (live_terms row) ∙ alone row parts.0 (id_term row.id) (itself (codes "id"))
    ∙ and_from (is_some row.doc) (bytes_eq row.id row.id) is_live (itself row.id) in
    let one = one_more (id_term row.id) (keyed from (live_terms row)) (keyed_rows (from + 1) rows) own
    (none_above row.id (from + 1) rows ascend.0 parts.1) in
    omega (arith, rest, one))
    (cases_lt from x)

-- there are no more live rows than keys
pub count-live : (rows : List Write) (numbers : List ℕ) → AscendById rows → list_all has_id_alone rows ≡ true → AreLiveRows rows numbers → length numbers ≤ term_count rows
count-live rows numbers ascend all live =
    each_own 0 rows numbers (ascend-from rows ascend) all (ascend_from_increasing numbers live.ascending)
    (λ k has. let place : 0 + k ≡ k = omega arith in sym (live.members k) ∙ subst (λ n. has_row numbers n ≡ true) place has)
