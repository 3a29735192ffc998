-- What a binary search for an id finds, and what a put there makes.
use Rattle.std.proofs.Common.{◌≡◌, ℕ, zero, suc, ◌+◌, ◌-◌, ◌<◌, ◌≤◌, List, [], ◌∷◌, true, false, map, length, get_or, set, insert, Some, None, Result, Ok, Err, inl, inr, refl, sym, ap, ◌∙◌, arith}
use Rattle.std.specs.List.{AllWithin, HoldsAt}
use Rattle.std.specs.List.Sorted.{IsNonDecreasingBy, IsBinarySearchResult, IsSearchInRange, IsStrictlySortedBy}
use Rattle.std.specs.Ordering.{ordering_index, is_lt}
use Rattle.std.specs.declared.cmp.Ordering.TheVariants.{Less, Equal, Greater}
use Rattle.std.proofs.lemmas.Cmp.{nat_list_cmp_total}
use Rattle.std.proofs.lemmas.Bool.{cases_lt}
use Rattle.std.proofs.lemmas.List.{get_or-map, get_or_default, length-map, map-append, map-set}
use Rattle.std.specs.List.{take-map, drop-map}
use Rattle.std.proofs.Math.ListN as lists
use Rattle.std.specs.Prelude.{int_lt}
use Rattle.std.proofs.lemmas.List.Sorted.{searchable_from_sorted}
use Rattle.std.proofs.lemmas.Map.Keys.{Less-from_sorted}
use Rattle.sc_record.specs.Writes.{Write, is_of, write_of, AscendById}
use Rattle.sc_replica.specs.Cells.{CellsState, put, applied, spare_after}
use Rattle.sc_replica.specs.Places.{compared, IsSearchedPlace}
use Rattle.sc_replica.proofs.IdLemmas.{order, order-back, same-id, id-itself, lower-id, higher-id}
use Rattle.sc_replica.proofs.CellLemmas.{ids, IsBelowAll, put-ascends}

-- an earlier write's id is below a later one's
Less-at : (writes : List Write) (i j : ℕ) (d : Write) → AscendById writes → i < j → j < length writes
    → order (get_or writes i d).id (get_or writes j d).id ≡ Less
Less-at writes i j d a l h =
    let within : j < length (ids writes) = simp length-map h in
    let id_of : Write → List ℕ = λ w. w.id in
    rw (lists.get_or-map id_of writes i d, lists.get_or-map id_of writes j d) at (Less-from_sorted order (ids writes) i j d.id a l within)

-- an id that is above the last write's is above all
pub above-last : (writes : List Write) (id : List ℕ) (last : Write) → AscendById writes
    → last ≡ get_or writes (length writes - 1) last → compared id last ≡ Less
    → AllWithin (λ (w : Write). compared id w ≡ Less) writes 0 (length writes)
above-last writes id last a at below k d low within =
    let end : get_or writes (length writes - 1) d ≡ last = get_or_default writes (length writes - 1) d last (omega arith) ∙ sym at in
    elim (cases_lt k (length writes - 1)) [
      | inl before ↦ nat_list_cmp_total.trans (get_or writes k d).id last.id id
          (rw end at (Less-at writes k (length writes - 1) d a before (omega arith))) below
      | inr past ↦ let same : k ≡ length writes - 1 = omega arith in rw (same, end) below
    ]

module _ {X : Type 0} (f : X → Write) where
  -- where the ids ascend a binary search may be made
  pub searchable : (xs : List X) (id : List ℕ) → AscendById (map f xs)
      → IsNonDecreasingBy (λ (x : X). ordering_index (compared id (f x))) xs
  searchable xs id a = searchable_from_sorted nat_list_cmp_total (λ (x : X). (f x).id) xs id
      (λ k d _ h.
      let within : k + 1 < length (map f xs) = simp length-map h in
      let less = rw (lists.get_or-map f xs k d, lists.get_or-map f xs (k + 1) d) at (Less-at (map f xs) k (k + 1) (f d) a (omega arith) within) in
      ap is_lt (order-back (f (get_or xs k d)).id (f (get_or xs (k + 1) d)).id Less less))

  -- what holds of the images within a range holds there of the list of them
  AllWithin-map : (P : Write → Type 0) (xs : List X) (low high : ℕ) → high ≤ length xs
      → AllWithin (λ (x : X). P (f x)) xs low high → AllWithin P (map f xs) low high
  AllWithin-map P [] low high b all k d l h = absurd (omega arith)
  AllWithin-map P (x ∷ xs) low high b all k d l h =
      let within : k < length (x ∷ xs) = omega arith in
      rw (get_or-map f (x ∷ xs) k x d within) (all k x l h)

  -- and at a place
  HoldsAt-map : (P : Write → Type 0) (xs : List X) (k : ℕ) → k < length xs → HoldsAt (λ (x : X). P (f x)) xs k
      → HoldsAt P (map f xs) k
  HoldsAt-map P [] k h at d = absurd (omega arith)
  HoldsAt-map P (x ∷ xs) k h at d = rw (get_or-map f (x ∷ xs) k x d h) (at x)

  -- the answer of a binary search is a place
  pub IsPlace-from_search : (xs : List X) (id : List ℕ) (r : Result ℕ ℕ) → AscendById (map f xs)
      → IsSearchInRange r (length xs)
      → IsBinarySearchResult (λ (x : X). compared id (f x)) xs r → IsSearchedPlace (map f xs) id r
  IsPlace-from_search xs id (Ok place) a bound found = (simp length-map bound, HoldsAt-map (λ (w : Write). compared id w ≡ Equal) xs place bound found)
  IsPlace-from_search xs id (Err place) a bound parts =
      let split = parts (searchable xs id a) in (
        simp length-map bound,
        AllWithin-map (λ (w : Write). compared id w ≡ Less) xs 0 place bound split.0,
        simp length-map (AllWithin-map (λ (w : Write). compared id w ≡ Greater) xs place (length xs) (omega arith) split.1),
      )

-- an id that is below all has no write among them
pub write_of-below : (writes : List Write) (id : List ℕ) → IsBelowAll id (ids writes) → write_of writes id ≡ None
write_of-below [] id all = refl
write_of-below (w ∷ writes) id all =
    let differs : is_of id w ≡ false = higher-id w.id id (order-back id w.id Less all.0) in
    rw differs (write_of-below writes id all.1)

-- where the ids below a place are lower and the others are higher, the id has no write
pub write_of-absent : (writes : List Write) (id : List ℕ) (place : ℕ) → place ≤ length writes
    → AllWithin (λ (w : Write). compared id w ≡ Less) writes 0 place
    → AllWithin (λ (w : Write). compared id w ≡ Greater) writes place (length writes) → write_of writes id ≡ None
write_of-absent [] id place b lower higher = refl
write_of-absent (w ∷ writes) id zero b lower higher =
    let differs : is_of id w ≡ false = higher-id w.id id (higher 0 w (omega arith) (omega arith)) in
    rw differs (write_of-absent writes id zero (omega arith) (λ k d l h. absurd (omega arith)) (λ k d l h. higher (suc k) d (omega arith) (omega arith)))
write_of-absent (w ∷ writes) id (suc place) b lower higher =
    let differs : is_of id w ≡ false = lower-id w.id id (lower 0 w (omega arith) (omega arith)) in
    rw differs (write_of-absent writes id place (omega arith) (λ k d l h. lower (suc k) d (omega arith) (omega arith)) (λ k d l h. higher (suc k) d (omega arith) (omega arith)))

-- and a put puts the write in at that place
pub put-absent : (writes : List Write) (write : Write) (place : ℕ) → place ≤ length writes
    → AllWithin (λ (w : Write). compared write.id w ≡ Less) writes 0 place
    → AllWithin (λ (w : Write). compared write.id w ≡ Greater) writes place (length writes)
    → put writes write ≡ insert writes place write
put-absent [] write zero b lower higher = refl
put-absent [] write (suc place) b lower higher = absurd (omega arith)
put-absent (w ∷ writes) write zero b lower higher =
    let before : order write.id w.id ≡ Less = order-back w.id write.id Greater (higher 0 w (omega arith) (omega arith)) in
    rw before refl
put-absent (w ∷ writes) write (suc place) b lower higher =
    let after : order write.id w.id ≡ Greater = order-back w.id write.id Less (lower 0 w (omega arith) (omega arith)) in
    rw (after, put-absent writes write place (omega arith) (λ k d l h. lower (suc k) d (omega arith) (omega arith)) (λ k d l h. higher (suc k) d (omega arith) (omega arith))) refl

-- the first write is below the one that is found after it
below-found : (w : Write) (writes : List Write) (id : List ℕ) (place : ℕ) (d : Write) → AscendById (w ∷ writes)
    → place < length writes
    → compared id (get_or writes place d) ≡ Equal → order w.id id ≡ Less
below-found w writes id place d a h found =
    rw (same-id (get_or writes place d).id id found) at (Less-at (w ∷ writes) 0 (suc place) d a (omega arith) (omega arith))

-- the write at a place whose id compares equal is the id's write
pub write_of-found : (writes : List Write) (id : List ℕ) (place : ℕ) (d : Write) → AscendById writes
    → place < length writes
    → compared id (get_or writes place d) ≡ Equal → write_of writes id ≡ Some (get_or writes place d)
unfolding IsStrictlySortedBy
write_of-found [] id place d a h found = absurd (omega arith)
write_of-found (w ∷ writes) id zero d a h found =
    let same : is_of id w ≡ true = rw (same-id w.id id found) (id-itself id) in
    rw same refl
write_of-found (w ∷ writes) id (suc place) d a h found =
    let differs : is_of id w ≡ false = lower-id w.id id (below-found w writes id place d a (omega arith) found) in
    rw differs (write_of-found writes id place d a.1 (omega arith) found)

-- and a put replaces it there
pub put-found : (writes : List Write) (write : Write) (place : ℕ) (d : Write) → AscendById writes
    → place < length writes
    → compared write.id (get_or writes place d) ≡ Equal → put writes write ≡ set writes place write
unfolding IsStrictlySortedBy
put-found [] write place d a h found = absurd (omega arith)
put-found (w ∷ writes) write zero d a h found = rw (order-back w.id write.id Equal found) refl
put-found (w ∷ writes) write (suc place) d a h found =
    let after : order write.id w.id ≡ Greater = order-back w.id write.id Less (below-found w writes write.id place d a (omega arith) found) in
    rw (after, put-found writes write place d a.1 (omega arith) found) refl

module _ {X : Type 0} (f : X → Write) where
  -- an id that is above the last one is above all
  pub above-end : (xs : List X) (id : List ℕ) (last : X) → AscendById (map f xs)
      → last ≡ get_or xs (length xs - 1) last → compared id (f last) ≡ Less
      → AllWithin (λ (w : Write). compared id w ≡ Less) (map f xs) 0 (length xs)
  above-end xs id last a at below k d low within =
      let here : f last ≡ get_or (map f xs) (length (map f xs) - 1) (f last) = simp length-map (ap f at ∙ sym (lists.get_or-map f xs (length xs - 1) last)) in
      above-last (map f xs) id (f last) a here below k d low (simp length-map within)

  -- the place of an id is within the list
  pub within-at : (xs : List X) (id : List ℕ) (place : ℕ) → IsSearchedPlace (map f xs) id (Ok place) → place < length xs
  within-at xs id place p = simp length-map at p.0

  -- the place before which an id would be put in is at most the list's end
  pub within-nowhere : (xs : List X) (id : List ℕ) (place : ℕ) → IsSearchedPlace (map f xs) id (Err place) → place ≤ length xs
  within-nowhere xs id place p = simp length-map at p.0

  -- the write at the place of an id is the id's
  pub write_of-at : (xs : List X) (id : List ℕ) (place : ℕ) (d : X) → AscendById (map f xs)
      → IsSearchedPlace (map f xs) id (Ok place)
      → write_of (map f xs) id ≡ Some (f (get_or xs place d))
  write_of-at xs id place d a p =
      write_of-found (map f xs) id place (f d) a p.0 (p.1 (f d)) ∙ ap Some (lists.get_or-map f xs place d)

  -- an id that has no place has no write
  pub write_of-nowhere : (xs : List X) (id : List ℕ) (place : ℕ) → IsSearchedPlace (map f xs) id (Err place)
      → write_of (map f xs) id ≡ None
  write_of-nowhere xs id place p = write_of-absent (map f xs) id place p.0 p.1 p.2

  -- a put sets the write at the place of its id
  pub put-at : (xs : List X) (x : X) (place : ℕ) → AscendById (map f xs) → IsSearchedPlace (map f xs) (f x).id (Ok place)
      → put (map f xs) (f x) ≡ map f (set xs place x)
  put-at xs x place a p = put-found (map f xs) (f x) place (f x) a p.0 (p.1 (f x)) ∙ sym (map-set f xs place x)

  -- or puts it in before the place
  pub put-nowhere : (xs : List X) (x : X) (place : ℕ) → IsSearchedPlace (map f xs) (f x).id (Err place)
      → put (map f xs) (f x) ≡ map f (insert xs place x)
  put-nowhere xs x place p = put-absent (map f xs) (f x) place p.0 p.1 p.2 ∙ sym (map-insert xs place x)
    where
      map-insert : (xs : List X) (place : ℕ) (x : X) → map f (insert xs place x) ≡ insert (map f xs) place (f x)
      map-insert xs place x = simp (map-append, take-map, drop-map)

  -- with the write set at its place the ids ascend
  pub ascends-at : (xs : List X) (x : X) (place : ℕ) → AscendById (map f xs)
      → IsSearchedPlace (map f xs) (f x).id (Ok place) → AscendById (map f (set xs place x))
  ascends-at xs x place a p = rw (← put-at xs x place a p) (put-ascends (map f xs) (f x) a)

  -- and with the write put in there
  pub ascends-nowhere : (xs : List X) (x : X) (place : ℕ) → AscendById (map f xs)
      → IsSearchedPlace (map f xs) (f x).id (Err place) → AscendById (map f (insert xs place x))
  ascends-nowhere xs x place a p = rw (← put-nowhere xs x place p) (put-ascends (map f xs) (f x) a)

  -- the cells with the write set at its place, or put in there, are those of a put
  pub put-state-at : (xs : List X) (x : X) (place spare : ℕ) → AscendById (map f xs)
      → IsSearchedPlace (map f xs) (f x).id (Ok place)
      → let cells = map f xs in
      let before : CellsState = record { writes = map f (set xs place x); spare = spare } in
      before ≡ record { writes = put cells (f x); spare = spare_after cells spare (f x) }
  put-state-at xs x place spare a p = rw (write_of-at xs (f x).id place x a p, put-at xs x place a p) refl

  -- where the id has no place, they are those with the write put in
  pub put-state-nowhere : (xs : List X) (x : X) (place spare : ℕ) → AscendById (map f xs)
      → IsSearchedPlace (map f xs) (f x).id (Err place)
      → let cells = map f xs in
      let before : CellsState = record { writes = map f (insert xs place x); spare = spare - 1 } in
      before ≡ record { writes = put cells (f x); spare = spare_after cells spare (f x) }
  put-state-nowhere xs x place spare a p = rw (write_of-nowhere xs (f x).id place p, put-nowhere xs x place p) refl

  -- and those of a write that is applied, unless its version isn't greater
  pub applied-state-at : (xs : List X) (x : X) (place spare : ℕ) → AscendById (map f xs)
      → IsSearchedPlace (map f xs) (f x).id (Ok place)
      → int_lt (f (get_or xs place x)).version (f x).version ≡ true
      → let cells = map f xs in
      let before : CellsState = record { writes = map f (set xs place x); spare = spare } in
      before ≡ record { writes = applied cells (f x); spare = spare_after cells spare (f x) }
  applied-state-at xs x place spare a p newer =
      rw (write_of-at xs (f x).id place x a p, newer, put-at xs x place a p) refl

  -- where it is not greater, the cells stay
  pub applied-state-older : (xs : List X) (x : X) (place spare : ℕ) → AscendById (map f xs)
      → IsSearchedPlace (map f xs) (f x).id (Ok place)
      → int_lt (f (get_or xs place x)).version (f x).version ≡ false
      → let cells = map f xs in
      let before : CellsState = record { writes = cells; spare = spare } in
      before ≡ record { writes = applied cells (f x); spare = spare_after cells spare (f x) }
  applied-state-older xs x place spare a p older =
      rw (write_of-at xs (f x).id place x a p, older) refl

  -- where the id has no place, the write is put in
  pub applied-state-nowhere : (xs : List X) (x : X) (place spare : ℕ) → AscendById (map f xs)
      → IsSearchedPlace (map f xs) (f x).id (Err place)
      → let cells = map f xs in
      let before : CellsState = record { writes = map f (insert xs place x); spare = spare - 1 } in
      before ≡ record { writes = applied cells (f x); spare = spare_after cells spare (f x) }
  applied-state-nowhere xs x place spare a p = rw (write_of-nowhere xs (f x).id place p, put-nowhere xs x place p) refl
