-- What a core becomes by cells that ascend and are applied one after another.
use Rattle.std.proofs.Common.{◌≡◌, ◌∙◌, ◌⊎◌, inr, ℕ, ◌+◌, ◌<◌, ◌≤◌, ℤ, Bool, true, false, cond, List, [], ◌∷◌, ◌++◌, map, take, length, get_or, slice_get, Some, Option, Contains, refl, sym, ap, subst, arith, All}
use Rattle.std.specs.Int.{int_max}
use Rattle.std.specs.Prelude.{int_lt}
use Rattle.std.specs.declared.cmp.Ordering.TheVariants.{Less, Greater}
use Rattle.std.specs.Arc.{arc_value}
use Rattle.std.specs.declared.alloc.Global.{Global}
use Rattle.std.specs.declared.sync.Arc.{Arc}
use Rattle.std.specs.Option.{option_map}
use Rattle.std.proofs.lemmas.Int.{ints, clamps}
use Rattle.std.proofs.lemmas.List.{take_all, take_more, length-map, length-take, get_or-map, get_or-take}
use Rattle.std.proofs.lemmas.List.Elements.{All-head, All-tail, AllWithin-from_all}
use Rattle.std.proofs.lemmas.Map.Keys.{Less-from_sorted}
use Rattle.std.proofs.lemmas.Option.{slice_get-map, slice_get_read, slice_get_within, get_or_from_slice_get}
use Rattle.sc_record.specs.Writes.{Write, AscendById}
use Rattle.sc_cluster.proofs.ListLemmas.{Contains-map}
use Rattle.sc_replica.specs.Cells.{put, is_above, applied}
use Rattle.sc_replica.proofs.IdLemmas.{order, order-back}
use Rattle.sc_replica.proofs.PlaceLemmas.{write_of-absent}
use Rattle.sc_replica.specs.Core.{Core, fed}
use Rattle.sc_replicas.specs.Cores.{with_room}
use Rattle.sc_bucket.proofs.TakenLemmas.{Contains-slice_get}
use Rattle.sc_restored.specs.Restored.{emptied, Puts, Fills}

-- the write's id is above that of the other
abbrev IsBelow : Write → Write → Type 0
IsBelow write other = order other.id write.id ≡ Less

-- a write whose id is above all comes to the end
put_above : (cells : List Write) (write : Write) → All (IsBelow write) cells → put cells write ≡ cells ++ write ∷ []
put_above [] write below = refl
put_above (cell ∷ cells) write below =
    let above : order write.id cell.id ≡ Greater = order-back cell.id write.id Less (All-head (IsBelow write) cell cells below) in
    rw (above, put_above cells write (All-tail (IsBelow write) cell cells below)) refl

applied_above : (cells : List Write) (write : Write) → All (IsBelow write) cells → applied cells write ≡ cells ++ write ∷ []
applied_above cells write below =
    let none = write_of-absent cells write.id (length cells) (omega arith) (AllWithin-from_all (IsBelow write) cells below)
    (λ k d low high. absurd (omega arith)) in
    ap (λ (found : Option Write). cond (is_above found write) (put cells write) cells) none ∙ put_above cells write below

-- where ids ascend those before a write are below it
before_are_below : (writes : List Write) (at : ℕ) (write : Write) → AscendById writes → slice_get writes at ≡ Some write
    → All (IsBelow write) (take at writes)
before_are_below writes at write ascend there k d below =
    let within : at < length writes = slice_get_within writes at write there in
    let before : k < at = omega (arith, below, length-take at writes) in
    let id_of : Write → List ℕ = λ w. w.id in
    let less = Less-from_sorted order (map id_of writes) k at d.id ascend before (omega (arith, within, length-map writes id_of)) in
    let one = get_or-map id_of writes k d d.id (omega (arith, before, within)) in
    let other = get_or-map id_of writes at d d.id within in
    let named : get_or writes at d ≡ write = get_or_from_slice_get writes at write d there in
    let here : get_or (take at writes) k d ≡ get_or writes k d = get_or-take at writes k d before in
    subst (λ (w : Write). order w.id write.id ≡ Less) (sym here)
    (subst (λ (w : Write). order (get_or writes k d).id w.id ≡ Less) named
    (subst (λ (id : List ℕ). order (get_or writes k d).id id ≡ Less) other
    (subst (λ (id : List ℕ). order id (get_or (map id_of writes) at d.id) ≡ Less) one less)))

-- a cell at its place, by its write
pub write_at_place : (cells : List (Arc Write Global)) (at : ℕ) (cell : Arc Write Global) → at < length cells → cell ≡ get_or cells at cell
    → slice_get (map arc_value cells) at ≡ Some (arc_value cell)
write_at_place cells at cell below is =
    slice_get-map arc_value cells at ∙ ap (option_map arc_value) (slice_get_read cells (length cells) at cell refl below is)

-- the cells of the core are the first of those, and the next
pub cells_next : (writes cells next : List Write) (at : ℕ) (write : Write) → AscendById writes → slice_get writes at ≡ Some write
    → cells ≡ take at writes → next ≡ applied cells write → next ≡ take (at + 1) writes
cells_next writes cells next at write ascend there so_far put_is =
    put_is ∙ ap (λ (these : List Write). applied these write) so_far
    ∙ applied_above (take at writes) write (before_are_below writes at write ascend there)
    ∙ sym (take_more writes at write (slice_get_within writes at write there)
    ∙ ap (λ (w : Write). take at writes ++ w ∷ []) (get_or_from_slice_get writes at write write there))

-- its clock is what it was, or the version of one of them
pub clock_next : (writes : List Write) (at : ℕ) (write : Write) (old clock next : ℤ) → slice_get writes at ≡ Some write
    → next ≡ int_max clock write.version
    → (clock ≡ old) ⊎ Contains (map (λ (w : Write). w.version) writes) clock
    → (next ≡ old) ⊎ Contains (map (λ (w : Write). w.version) writes) next
clock_next writes at write old clock next there next_is so_far =
    subst IsOne (sym next_is) (by (int_lt clock write.version) refl) where
      IsOne : ℤ → Type 0
      IsOne z = (z ≡ old) ⊎ Contains (map (λ (w : Write). w.version) writes) z

      by : (b : Bool) → int_lt clock write.version ≡ b → IsOne (int_max clock write.version)
      by true less =
          let greatest : int_max clock write.version ≡ write.version = grind (arith, ints, clamps) in
          subst IsOne (sym greatest) (inr (Contains-map (λ (w : Write). w.version) writes write (Contains-slice_get writes at write there)))
      by false more =
          let greatest : int_max clock write.version ≡ clock = grind (arith, ints, clamps) in
          subst IsOne (sym greatest) so_far

-- a core that has room for a write was fed a share of it
pub puts : (old room new : Core) (write share : Write) → room ≡ with_room 1 old → share ≡ write → new ≡ fed room share → Puts write old new
puts old room new write share room_is same fed_is = record {
  cells = ap (λ (core : Core). core.cells) fed_is ∙ ap (λ (core : Core). applied core.cells share) room_is
      ∙ ap (λ (w : Write). applied old.cells w) same;
  clock = ap (λ (core : Core). core.clock) fed_is ∙ ap (λ (core : Core). int_max core.clock share.version) room_is
      ∙ ap (λ (w : Write). int_max old.clock w.version) same;
  rest = ap emptied fed_is ∙ ap emptied room_is;
}

-- the core once all cells were put in
pub filled_all : (cells : List (Arc Write Global)) (at : ℕ) (old new : Core) → length cells ≤ at
    → new.cells ≡ take at (map arc_value cells)
    → (new.clock ≡ old.clock) ⊎ Contains (map (λ (w : Write). w.version) (map arc_value cells)) new.clock
    → emptied new ≡ emptied old → Fills (map arc_value cells) old new
filled_all cells at old new over cells_are clock rest = record {
  cells = cells_are ∙ take_all at (map arc_value cells) (omega (arith, over, length-map cells arc_value));
  clock = clock;
  rest = rest;
}
