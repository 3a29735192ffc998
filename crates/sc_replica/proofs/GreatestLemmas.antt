-- The cell of an id is the greatest of the writes of it that came.
use Rattle.std.proofs.Common.{◌≡◌, inl, ℕ, List, [], ◌∷◌, ◌++◌, Bool, true, false, Option, Some, None, is_some, map, cond, refl, sym, ap, ◌∙◌, append_assoc, arith, ℤ, ◌≤ℤ◌, ◌<ℤ◌}
use Rattle.std.specs.Int.{int_max}
use Rattle.std.specs.List.{All, filter}
use Rattle.std.specs.Option.{option_to_list}
use Rattle.std.specs.Prelude.{int_lt}
use Rattle.std.proofs.lemmas.Int.{ints, clamps}
use Rattle.std.proofs.lemmas.List.{append-nil}
use Rattle.std.proofs.lemmas.List.Elements.{All-nil, All-cons, All-head, All-tail, All-push, All-weaker, Contains-append_left, Contains-push}
use Rattle.sc_record.specs.Writes.{Write, is_of, write_of}
use Rattle.sc_ulog.specs.declared.mode.Mode.TheVariants.{Active}
use Rattle.sc_replica.specs.Cells.{put, is_above, is_newer, applied}
use Rattle.sc_replica.specs.Core.{Core, IsCore, led, fed}
use Rattle.sc_replica.specs.Deliveries.{Delivery, carried, after_delivery, after_deliveries, IsGreatest}
use Rattle.sc_replica.proofs.IdLemmas.{one-id}
use Rattle.sc_replica.proofs.CellLemmas.{write_of-put}
use Rattle.sc_replica.proofs.CoreLemmas.{received-applied}

-- the greater of a cell, where there is one, and a write
abbrev pub greater : Option Write → Write → Option Write
greater old write = cond (is_above old write) (Some write) old

-- applying a write changes the cell of its id alone, to the greater of the two
write_of-applied-at : (cells : List Write) (write : Write) (id : List ℕ) (b d : Bool) → is_newer cells write ≡ b
    → is_of id write ≡ d
    → write_of (cond b (put cells write) cells) id ≡ cond d (greater (write_of cells id) write) (write_of cells id)
write_of-applied-at cells write id true true newer same =
    let above : is_above (write_of cells id) write ≡ true = ap (λ (one : List ℕ). is_above (write_of cells one) write) (sym (one-id write.id id same)) ∙ newer in
    write_of-put cells write id ∙ rw (same, above) refl
write_of-applied-at cells write id true false newer other = write_of-put cells write id ∙ rw other refl
write_of-applied-at cells write id false true older same =
    let below : is_above (write_of cells id) write ≡ false = ap (λ (one : List ℕ). is_above (write_of cells one) write) (sym (one-id write.id id same)) ∙ older in
    rw below refl
write_of-applied-at cells write id false false older other = refl

-- so for every write and id
pub write_of-applied : (cells : List Write) (write : Write) (id : List ℕ)
    → write_of (applied cells write) id ≡ cond (is_of id write) (greater (write_of cells id) write) (write_of cells id)
write_of-applied cells write id = write_of-applied-at cells write id (is_newer cells write) (is_of id write) refl refl

-- the greatest of writes and one more is the greater of the two
pub IsGreatest-more : (known : List Write) (old : Option Write) (write : Write) → IsGreatest known old
    → IsGreatest (known ++ write ∷ []) (greater old write)
IsGreatest-more known None write none =
    (Contains-push known write, rw none (All-cons (λ (other : Write). other.version ≤ℤ write.version) write [] (omega (arith, ints)) (All-nil (λ (other : Write). other.version ≤ℤ write.version))))
IsGreatest-more known (Some cell) write is = by_test (int_lt cell.version write.version) refl
  where
    by_test : (b : Bool) → int_lt cell.version write.version ≡ b
        → IsGreatest (known ++ write ∷ []) (cond b (Some write) (Some cell))
    by_test true h =
        let up : cell.version ≤ℤ write.version = grind (arith, ints) in
        let below : All (λ (other : Write). other.version ≤ℤ write.version) known =
        All-weaker (λ (other : Write). other.version ≤ℤ cell.version) (λ (other : Write). other.version ≤ℤ write.version) (λ other l. omega (arith, ints)) known is.1 in
        (Contains-push known write, All-push (λ (other : Write). other.version ≤ℤ write.version) known write below (omega (arith, ints)))
    by_test false h =
        let down : write.version ≤ℤ cell.version = grind (arith, ints) in
        (Contains-append_left known (write ∷ []) cell is.0, All-push (λ (other : Write). other.version ≤ℤ cell.version) known write is.1 down)

-- what an active core is sent or fed is applied
pub delivered-applied : (core : Core) (delivery : Delivery) → core.mode ≡ Active
    → after_delivery core delivery ≡ fed core (carried delivery)
delivered-applied core (Delivery.Received write) active = received-applied core write (inl active)
delivered-applied core (Delivery.Fed write) active = refl

-- and it stays active
pub mode-delivered : (core : Core) (delivery : Delivery) → core.mode ≡ Active → (after_delivery core delivery).mode ≡ Active
mode-delivered core delivery active = ap (λ (c : Core). c.mode) (delivered-applied core delivery active) ∙ active

-- the cell of an id once something was delivered
pub write_of-delivered : (core : Core) (delivery : Delivery) (id : List ℕ) → core.mode ≡ Active
    → write_of (after_delivery core delivery).cells id ≡ cond (is_of id (carried delivery)) (greater (write_of core.cells id) (carried delivery)) (write_of core.cells id)
write_of-delivered core delivery id active =
    ap (λ (c : Core). write_of c.cells id) (delivered-applied core delivery active) ∙ write_of-applied core.cells (carried delivery) id

-- the cell is the greatest of what was known and what is delivered
greatest-all : (core : Core) (deliveries : List Delivery) (id : List ℕ) (known : List Write) → core.mode ≡ Active
    → IsGreatest known (write_of core.cells id)
    → IsGreatest (known ++ filter (is_of id) (map carried deliveries)) (write_of (after_deliveries core deliveries).cells id)
greatest-all core [] id known active is = rw append-nil is
greatest-all core (delivery ∷ deliveries) id known active is =
    by_test (is_of id (carried delivery)) refl (λ more h. greatest-all (after_delivery core delivery) deliveries id more (mode-delivered core delivery active) h)
  where
    by_test : (b : Bool) → is_of id (carried delivery) ≡ b
        → ((more : List Write) → IsGreatest more (write_of (after_delivery core delivery).cells id) → IsGreatest (more ++ filter (is_of id) (map carried deliveries)) (write_of (after_deliveries (after_delivery core delivery) deliveries).cells id))
        → IsGreatest (known ++ cond b (carried delivery ∷ filter (is_of id) (map carried deliveries)) (filter (is_of id) (map carried deliveries)))
        (write_of (after_deliveries (after_delivery core delivery) deliveries).cells id)
    by_test true same rest =
        let now : write_of (after_delivery core delivery).cells id ≡ greater (write_of core.cells id) (carried delivery) = write_of-delivered core delivery id active ∙ rw same refl in
        rw append_assoc at (rest (known ++ carried delivery ∷ []) (rw now (IsGreatest-more known (write_of core.cells id) (carried delivery) is)))
    by_test false other rest =
        let now : write_of (after_delivery core delivery).cells id ≡ write_of core.cells id = write_of-delivered core delivery id active ∙ rw other refl in
        rest known (rw now is)

-- a cell is the greatest of itself, and none of no writes
IsGreatest-itself : (cell : Option Write) → IsGreatest (option_to_list cell) cell
IsGreatest-itself None = refl
IsGreatest-itself (Some cell) =
    ((0, omega arith, refl), All-cons (λ (other : Write). other.version ≤ℤ cell.version) cell [] (omega (arith, ints)) (All-nil (λ (other : Write). other.version ≤ℤ cell.version)))

-- so it is from any cell on
pub keeps-greatest : (core : Core) (deliveries : List Delivery) (id : List ℕ) → core.mode ≡ Active
    → IsGreatest (option_to_list (write_of core.cells id) ++ filter (is_of id) (map carried deliveries)) (write_of (after_deliveries core deliveries).cells id)
keeps-greatest core deliveries id active = greatest-all core deliveries id (option_to_list (write_of core.cells id)) active (IsGreatest-itself (write_of core.cells id))

-- a write that is above the clock is newer than every cell
above-clock : (cells : List Write) (clock : ℤ) (id : List ℕ) (write : Write)
    → All (λ (cell : Write). cell.version ≤ℤ clock) cells → clock <ℤ write.version
    → is_above (write_of cells id) write ≡ true
above-clock [] clock id write all h = refl
above-clock (cell ∷ cells) clock id write all h =
    let first : cell.version ≤ℤ clock = All-head (λ (cell : Write). cell.version ≤ℤ clock) cell cells all in
    let rest = above-clock cells clock id write (All-tail (λ (cell : Write). cell.version ≤ℤ clock) cell cells all) h in
    elim (is_of id cell) as (λ b. is_above (cond b (Some cell) (write_of cells id)) write ≡ true) [ true ↦ newer cell first | false ↦ rest ]
  where
    newer : (cell : Write) → cell.version ≤ℤ clock → int_lt cell.version write.version ≡ true
    newer cell first = grind (arith, ints)

-- so that to lead it is to apply it
pub led-fed : (core : Core) (write : Write) → IsCore core → core.clock <ℤ write.version
    → led core write ≡ fed core write
led-fed core write is above =
    let newer : is_newer core.cells write ≡ true = above-clock core.cells core.clock write.id write is.clocked above in
    let later : int_max core.clock write.version ≡ write.version = omega (arith, ints, clamps) in
    rw (newer, later) refl

-- a write that is dropped leaves all as it was: its id has a cell, whose version is at most the clock
dropped : (cells : List Write) (clock : ℤ) (id : List ℕ) (write : Write)
    → All (λ (cell : Write). cell.version ≤ℤ clock) cells → is_above (write_of cells id) write ≡ false
    → (is_some (write_of cells id) ≡ true) × (write.version ≤ℤ clock)
dropped [] clock id write all h = cc
dropped (cell ∷ cells) clock id write all h = by_test (is_of id cell) refl (λ older. dropped cells clock id write (All-tail (λ (c : Write). c.version ≤ℤ clock) cell cells all) older)
  where
    older : int_lt cell.version write.version ≡ false → cell.version ≤ℤ clock → write.version ≤ℤ clock
    older test first = grind (arith, ints)

    by_test : (b : Bool) → is_of id cell ≡ b
        → (is_above (write_of cells id) write ≡ false → (is_some (write_of cells id) ≡ true) × (write.version ≤ℤ clock))
        → (is_some (write_of (cell ∷ cells) id) ≡ true) × (write.version ≤ℤ clock)
    by_test true same rest =
        let first : cell.version ≤ℤ clock = All-head (λ (c : Write). c.version ≤ℤ clock) cell cells all in
        (rw same refl, older (rw same at h) first)
    by_test false other rest =
        let there = rest (rw other at h) in
        (rw other there.0, there.1)

-- a core that is fed an older write stays as it is
pub fed-older : (core : Core) (write : Write) → IsCore core → is_newer core.cells write ≡ false → fed core write ≡ core
fed-older core write is older =
    let there = dropped core.cells core.clock write.id write is.clocked older in
    let clock : int_max core.clock write.version ≡ core.clock = omega (arith, ints, clamps, there.1) in
    rw (older, there.0, clock) refl
