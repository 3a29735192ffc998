-- A search by halves among the live rows for that of an id.
use Rattle.std.proofs.Common.{◌≡◌, ℕ, zero, suc, ◌+◌, ◌-◌, ◌<◌, ◌≤◌, ◌==◌, Bool, true, false, true≢false, is_some, ◌&&◌, ◌||◌, List, [], ◌∷◌, take, drop, length, slice_get, Option, Some, None, refl, sym, ap, subst, ◌∙◌, arith, ⊎_elim}
use Rattle.std.specs.Prelude.{slice_range}
use Rattle.std.proofs.lemmas.Bool.{and_parts, cases_lt}
use Rattle.std.proofs.lemmas.Bool.Decides.{nat_tests}
use Rattle.std.proofs.lemmas.List.{drop_more}
use Rattle.std.proofs.lemmas.Option.{slice_get_within, get_or_from_slice_get}
use Rattle.std.proofs.lemmas.Slice.Eq.{bytes_eq-Decides}
use Rattle.std.specs.Str.{bytes_eq}
use Rattle.std.specs.declared.cmp.Ordering.TheVariants.{Less, Equal, Greater}
use Rattle.sc_record.specs.Writes.{Write, AscendById}
use Rattle.sc_rows.proofs.JoinLemmas.{AscendFrom, ascend_from_increasing}
use Rattle.sc_rows.specs.Joining.{has_row}
use Rattle.sc_snapshot.specs.Ids.{IsPlaceOfId}
use Rattle.sc_snapshot.specs.Postings.{is_live_at, is_live_of, AreLiveRows}
use Rattle.sc_snapshot.proofs.EditedLemmas.{later-above}
use Rattle.sc_snapshot.proofs.PlaceLemmas.{order, order-back, one_id, below-below, lower_id}

-- ---- rows and their numbers
same_number : (x y : ℕ) → x ≡ y → (x == y) ≡ true
same_number x y h = grind (arith, nat_tests)

one_number : (x y : ℕ) → (x == y) ≡ true → x ≡ y
one_number x y h = grind (arith, nat_tests)

-- what stands in a list is in it
has-at : (xs : List ℕ) (at x : ℕ) → slice_get xs at ≡ Some x → has_row xs x ≡ true
has-at [] at x is = cc
has-at (y ∷ xs) zero x is = let same : y ≡ x = cc in ap (λ b. b || has_row xs x) (same_number y x same)
has-at (y ∷ xs) (suc at) x is = elim (y == x) as (λ b. (b || has_row xs x) ≡ true) [ true ↦ refl | false ↦ has-at xs at x is ]

-- and what is in it stands somewhere
at-of : (xs : List ℕ) (x : ℕ) → has_row xs x ≡ true → (at : ℕ) × (slice_get xs at ≡ Some x)
at-of [] x has = absurd (true≢false (sym has))
at-of (y ∷ xs) x has = by_first (λ later. at-of xs x later) (y == x) refl has
  where
    by_first : (has_row xs x ≡ true → (at : ℕ) × (slice_get xs at ≡ Some x)) → (b : Bool) → (y == x) ≡ b → (b || has_row xs x) ≡ true
        → (at : ℕ) × (slice_get (y ∷ xs) at ≡ Some x)
    by_first rest true here _ = (0, ap (λ (n : ℕ). Some n) (one_number y x here))
    by_first rest false _ later = let found = rest later in (suc found.0, found.1)

from-at : (low : ℕ) (xs : List ℕ) (at x : ℕ) → AscendFrom low xs → slice_get xs at ≡ Some x → low ≤ x
from-at low [] at x up is = cc
from-at low (y ∷ xs) zero x up is = let same : y ≡ x = cc in let first = up.0 in omega (arith, same, first)
from-at low (y ∷ xs) (suc at) x up is = let rest = from-at (y + 1) xs at x up.1 is in let first = up.0 in omega (arith, rest, first)

rises : (low : ℕ) (xs : List ℕ) (i j x y : ℕ) → AscendFrom low xs → i < j → slice_get xs i ≡ Some x → slice_get xs j ≡ Some y → x < y
rises low [] i j x y up before at_i at_j = cc
rises low (z ∷ xs) i zero x y up before at_i at_j = absurd (omega (arith, before))
rises low (z ∷ xs) zero (suc j) x y up before at_i at_j =
    let same : z ≡ x = cc in
    let above = from-at (z + 1) xs j y up.1 at_j in
    omega (arith, same, above)
rises low (z ∷ xs) (suc i) (suc j) x y up before at_i at_j = rises (z + 1) xs i j x y up.1 (omega (arith, before)) at_i at_j

-- ---- a live row
-- there is a row, and it is live
live-row : (o : Option Write) → is_live_at o ≡ true → (row : Write) × (o ≡ Some row) × (is_some row.doc ≡ true)
live-row None live = absurd (true≢false (sym live))
live-row (Some row) live = (row, refl, live)

-- there is a row, it is live, and has the id
row-of : (id : List ℕ) (o : Option Write) → is_live_of id o ≡ true → (row : Write) × (o ≡ Some row) × (is_some row.doc ≡ true) × (row.id ≡ id)
row-of id None live = absurd (true≢false (sym live))
row-of id (Some row) live =
    let parts = and_parts (is_some row.doc) (bytes_eq row.id id) live in
    (row, refl, parts.0, (bytes_eq-Decides row.id id).0 parts.1)

itself : (x : List ℕ) → bytes_eq x x ≡ true
itself x = (bytes_eq-Decides x x).1 refl

-- an id is not below itself
not_below : (x : List ℕ) → order x x ≡ Less → ⊥
not_below x h = true≢false (sym (itself x) ∙ lower_id x x h)

-- the live rows before this place are below the id
abbrev pub AreLower : List Write → List ℕ → List ℕ → ℕ → Type 0
AreLower rows live id low = (at number : ℕ) (row : Write) → at < low → slice_get live at ≡ Some number → slice_get rows number ≡ Some row → order row.id id ≡ Less

-- those from this place on are above it
abbrev pub AreHigher : List Write → List ℕ → List ℕ → ℕ → Type 0
AreHigher rows live id high = (at number : ℕ) (row : Write) → high ≤ at → slice_get live at ≡ Some number → slice_get rows number ≡ Some row → order id row.id ≡ Less

module _ (rows : List Write) (live : List ℕ) (are : AreLiveRows rows live) where
  -- what stands among the live rows is one
  pub live-at : (at number : ℕ) → slice_get live at ≡ Some number → is_live_at (slice_get rows number) ≡ true
  live-at at number is = sym (are.members number) ∙ has-at live at number is

  pub live-within : (at number : ℕ) → slice_get live at ≡ Some number → number < length rows
  live-within at number is =
      let found = live-row (slice_get rows number) (live-at at number is) in
      slice_get_within rows number found.0 found.1

  module _ (ascend : AscendById rows) (id : List ℕ) where
    module _ (middle here : ℕ) (row : Write) (is_live : slice_get live middle ≡ Some here) (is : slice_get rows here ≡ Some row) where
      same_row : (at number : ℕ) (other : Write) → at ≡ middle → slice_get live at ≡ Some number → slice_get rows number ≡ Some other → row.id ≡ other.id
      same_row at number other place at_live at_row =
          let one : Some here ≡ Some number = sym is_live ∙ ap (slice_get live) (sym place) ∙ at_live in
          let same : here ≡ number = cc in
          let found : Some row ≡ Some other = sym is ∙ ap (slice_get rows) same ∙ at_row in
          let equal : row ≡ other = cc in
          ap (λ (w : Write). w.id) equal

      pub lower-more : order row.id id ≡ Less → AreLower rows live id (middle + 1)
      lower-more h at number other before at_live at_row = ⊎_elim
          (λ earlier.
          below-below other.id row.id id
          (later-above rows number here other row ascend at_row is
          (rises 0 live at middle number here (ascend_from_increasing live are.ascending) earlier at_live is_live)) h)
          (λ later.
          let place : at ≡ middle = omega (arith, before, later) in
          subst (λ (x : List ℕ). order x id ≡ Less) (same_row at number other place at_live at_row) h)
          (cases_lt at middle)

      pub higher-more : order row.id id ≡ Greater → AreHigher rows live id middle
      higher-more greater at number other after at_live at_row =
          let h : order id row.id ≡ Less = order-back row.id id Greater greater in
          ⊎_elim
          (λ later.
          below-below id row.id other.id h
          (later-above rows here number row other ascend is at_row
          (rises 0 live middle at here number (ascend_from_increasing live are.ascending) later is_live at_live)))
          (λ earlier.
          let place : at ≡ middle = omega (arith, after, earlier) in
          subst (λ (x : List ℕ). order id x ≡ Less) (same_row at number other place at_live at_row) h)
          (cases_lt middle at)

      pub place-found : order row.id id ≡ Equal → IsPlaceOfId rows live id (Some middle)
      place-found h =
          let same : row.id ≡ id = one_id row.id id h in
          let equal : bytes_eq row.id id ≡ true = (bytes_eq-Decides row.id id).1 same in
          let lives : is_some row.doc ≡ true = ap is_live_at (sym is) ∙ live-at middle here is_live in
          (here, is_live, ap (is_live_of id) is ∙ ap (λ b. b && bytes_eq row.id id) lives ∙ equal)

    -- no live row is of the id
    pub place-none : (low high : ℕ) → high ≤ low → AreLower rows live id low → AreHigher rows live id high → IsPlaceOfId rows live id None
    place-none low high met lower higher number = by_test (is_live_of id (slice_get rows number)) refl
      where
        by_test : (b : Bool) → is_live_of id (slice_get rows number) ≡ b → b ≡ false
        by_test false h = refl
        by_test true h =
            let found = row-of id (slice_get rows number) h in
            let live_row : is_live_at (slice_get rows number) ≡ true = ap is_live_at found.1 ∙ found.2 in
            let place = at-of live number (are.members number ∙ live_row) in
            absurd (⊎_elim
            (λ before. not_below id (subst (λ (x : List ℕ). order x id ≡ Less) found.3 (lower place.0 number found.0 before place.1 found.1)))
            (λ after. not_below id (subst (λ (x : List ℕ). order id x ≡ Less) found.3 (higher place.0 number found.0 (omega (arith, after, met)) place.1 found.1)))
            (cases_lt place.0 low))

    -- the one number at the place is that of the row of the id, which no other row has
    pub found-alone : (at : ℕ) → IsPlaceOfId rows live id (Some at) → (number : ℕ)
        → has_row (slice_range live at (at + 1)) number ≡ is_live_of id (slice_get rows number)
    found-alone at place number =
        ap (λ (ns : List ℕ). has_row ns number) part ∙ by_number (place.0 == number) refl
      where
        part : slice_range live at (at + 1) ≡ place.0 ∷ []
        part =
            ap (λ n. take n (drop at live)) (let one : at + 1 - at ≡ suc 0 = omega arith in one)
            ∙ ap (take (suc 0)) (drop_more live at place.0 (slice_get_within live at place.0 place.1)
            ∙ ap (λ (n : ℕ). n ∷ drop (at + 1) live) (get_or_from_slice_get live at place.0 place.0 place.1))

        by_test : (place.0 == number) ≡ false → (b : Bool) → is_live_of id (slice_get rows number) ≡ b → false ≡ b
        by_test other false h = refl
        by_test other true h =
            let one = row-of id (slice_get rows place.0) place.2 in
            let two = row-of id (slice_get rows number) h in
            absurd (⊎_elim
            (λ before. not_below id (subst (λ (x : List ℕ). order x id ≡ Less) one.3 (subst (λ (x : List ℕ). order one.0.id x ≡ Less) two.3
            (later-above rows place.0 number one.0 two.0 ascend one.1 two.1 before))))
            (λ rest. ⊎_elim
            (λ after. not_below id (subst (λ (x : List ℕ). order x id ≡ Less) two.3 (subst (λ (x : List ℕ). order two.0.id x ≡ Less) one.3
            (later-above rows number place.0 two.0 one.0 ascend two.1 one.1 after))))
            (λ equal. let same : place.0 ≡ number = omega (arith, rest, equal) in true≢false (sym (same_number place.0 number same) ∙ other))
            (cases_lt number place.0))
            (cases_lt place.0 number))

        by_number : (b : Bool) → (place.0 == number) ≡ b → (b || false) ≡ is_live_of id (slice_get rows number)
        by_number true same = sym (ap (λ n. is_live_of id (slice_get rows n)) (sym (one_number place.0 number same)) ∙ place.2)
        by_number false other = by_test other (is_live_of id (slice_get rows number)) refl
