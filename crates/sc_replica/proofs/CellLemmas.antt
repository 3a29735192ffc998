-- What a put does to the cells: their order, and the cell of each id.
use Rattle.std.proofs.Common.{◌≡◌, ℕ, List, [], ◌∷◌, Bool, true, false, map, Some, cond, refl, sym, ap, ◌∙◌}
use Rattle.std.specs.List.{AllByRecursion}
use Rattle.std.specs.List.Sorted.{IsStrictlySortedBy}
use Rattle.std.specs.Ordering.{match_ordering}
use Rattle.std.specs.Str.{bytes_eq}
use Rattle.std.specs.declared.cmp.Ordering.{Ordering}
use Rattle.std.specs.declared.cmp.Ordering.TheVariants.{Less, Equal, Greater}
use Rattle.std.proofs.lemmas.Cmp.{nat_list_cmp_total}
use Rattle.sc_record.specs.Writes.{Write, is_of, write_of, AscendById}
use Rattle.sc_replica.specs.Cells.{put}
use Rattle.sc_replica.proofs.IdLemmas.{order, order-back, same-id, order-itself, one-id}

-- the ids of writes
abbrev pub ids : List Write → List (List ℕ)
ids writes = map (λ (write : Write). write.id) writes

-- the id is below each of these
abbrev pub IsBelowAll : List ℕ → List (List ℕ) → Type 0
IsBelowAll id others = AllByRecursion (λ other. order id other ≡ Less) others

-- what is below an id is below all that are above it
pub below-below : (low id : List ℕ) (others : List (List ℕ)) → order low id ≡ Less → IsBelowAll id others
    → IsBelowAll low others
below-below low id [] h all = tt
below-below low id (other ∷ others) h all = (nat_list_cmp_total.trans low id other h all.0, below-below low id others h all.1)

-- what is equal to an id that is below them is below them
below-alike : (same id : List ℕ) (others : List (List ℕ)) → order same id ≡ Equal → IsBelowAll id others
    → IsBelowAll same others
below-alike same id [] h all = tt
below-alike same id (other ∷ others) h all = (nat_list_cmp_total.congr same id other h ∙ all.0, below-alike same id others h all.1)

-- an id that is below all cells and below the write is below all once the write was put in
below-put-at : (id : List ℕ) (cell : Write) (cells : List Write) (write : Write) (o : Ordering)
    → IsBelowAll id (ids (cell ∷ cells)) → order id write.id ≡ Less
    → IsBelowAll id (ids (put cells write))
    → IsBelowAll id (ids (match_ordering o (write ∷ cell ∷ cells) (write ∷ cells) (cell ∷ put cells write)))
below-put-at id cell cells write Less all h rest = (h, all)
below-put-at id cell cells write Equal all h rest = (h, all.1)
below-put-at id cell cells write Greater all h rest = (all.0, rest)

-- so for every put
pub below-put : (id : List ℕ) (cells : List Write) (write : Write) → IsBelowAll id (ids cells)
    → order id write.id ≡ Less → IsBelowAll id (ids (put cells write))
below-put id [] write all h = (h, tt)
below-put id (cell ∷ cells) write all h = below-put-at id cell cells write (order write.id cell.id) all h (below-put id cells write all.1 h)

-- a put keeps the cells in order
put-ascends-at : (cell : Write) (cells : List Write) (write : Write) (o : Ordering) → order write.id cell.id ≡ o
    → AscendById (cell ∷ cells) → AscendById (put cells write)
    → AscendById (match_ordering o (write ∷ cell ∷ cells) (write ∷ cells) (cell ∷ put cells write))
unfolding IsStrictlySortedBy
put-ascends-at cell cells write Less h a rest = ((h, below-below write.id cell.id (ids cells) h a.0), a)
put-ascends-at cell cells write Equal h a rest = (below-alike write.id cell.id (ids cells) h a.0, a.1)
put-ascends-at cell cells write Greater h a rest = (below-put cell.id cells write a.0 (order-back write.id cell.id Greater h), rest)

-- so for every put
pub put-ascends : (cells : List Write) (write : Write) → AscendById cells → AscendById (put cells write)
unfolding IsStrictlySortedBy
put-ascends [] write a = (tt, tt)
put-ascends (cell ∷ cells) write a = put-ascends-at cell cells write (order write.id cell.id) refl a (put-ascends cells write a.1)

-- a put changes the cell of the write's id alone
write_of-put-at : (cell : Write) (cells : List Write) (write : Write) (id : List ℕ) (o : Ordering)
    → order write.id cell.id ≡ o
    → write_of (put cells write) id ≡ cond (is_of id write) (Some write) (write_of cells id)
    → write_of (match_ordering o (write ∷ cell ∷ cells) (write ∷ cells) (cell ∷ put cells write)) id ≡ cond (is_of id write) (Some write) (write_of (cell ∷ cells) id)
write_of-put-at cell cells write id Less h rest = refl
write_of-put-at cell cells write id Equal h rest = same (is_of id write) refl
  where
    same : (b : Bool) → is_of id write ≡ b
        → cond b (Some write) (write_of cells id) ≡ cond b (Some write) (write_of (cell ∷ cells) id)
    same true other = refl
    same false other =
        let differs : is_of id cell ≡ false = ap (λ (one : List ℕ). bytes_eq one id) (sym (same-id write.id cell.id h)) ∙ other in
        rw differs refl
write_of-put-at cell cells write id Greater h rest = rw rest (apart (is_of id cell) (is_of id write) refl refl)
  where
    apart : (b d : Bool) → is_of id cell ≡ b → is_of id write ≡ d
        → cond b (Some cell) (cond d (Some write) (write_of cells id)) ≡ cond d (Some write) (cond b (Some cell) (write_of cells id))
    apart true true one other =
        let same : order write.id cell.id ≡ Equal = rw (one-id write.id id other, one-id cell.id id one) (order-itself id) in
        cc
    apart true false one other = refl
    apart false true one other = refl
    apart false false one other = refl

-- so for every put
pub write_of-put : (cells : List Write) (write : Write) (id : List ℕ)
    → write_of (put cells write) id ≡ cond (is_of id write) (Some write) (write_of cells id)
write_of-put [] write id = refl
write_of-put (cell ∷ cells) write id = write_of-put-at cell cells write id (order write.id cell.id) refl (write_of-put cells write id)
