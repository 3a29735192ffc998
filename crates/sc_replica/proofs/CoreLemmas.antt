-- A core stays one, whatever comes to it.
use Rattle.std.proofs.Common.{◌≡◌, ◌⊎◌, inl, inr, ℕ, zero, suc, min, add-one, length-drop, length-take, ◌+◌, ◌<◌, ◌≤◌, ◌-◌, List, [], ◌∷◌, true, false, take, drop, length, is_some, cond, refl, sym, ◌∙◌, arith, ℤ, ◌≤ℤ◌, ◌<ℤ◌}
use Rattle.std.specs.Int.{int_max}
use Rattle.std.specs.List.{All}
use Rattle.std.specs.Ordering.{match_ordering}
use Rattle.std.specs.declared.cmp.Ordering.{Ordering}
use Rattle.std.specs.declared.cmp.Ordering.TheVariants.{Less, Equal, Greater}
use Rattle.std.proofs.lemmas.Grind.{common_steps}
use Rattle.std.proofs.lemmas.Int.{ints, clamps}
use Rattle.std.proofs.lemmas.List.Elements.{All-cons, All-head, All-tail, All-weaker}
use Rattle.sc_record.specs.Writes.{Write, write_of, AscendById}
use Rattle.sc_ulog.specs.LogState.{IsEmptyWhereActive}
use Rattle.sc_ulog.specs.declared.mode.Mode.{Mode}
use Rattle.sc_ulog.specs.declared.mode.Mode.TheVariants.{Active, Buffering, Replaying}
use Rattle.sc_replica.specs.Cells.{put, is_newer, applied, spare_after}
use Rattle.sc_replica.specs.Core.{Core, IsCore, led, fed, buffered, received, received_in, fed_all, replayed, replayed_next, fed_first, replayed_first, mode_left, finished, replay_limit}
use Rattle.sc_replica.proofs.IdLemmas.{order}
use Rattle.sc_replica.proofs.CellLemmas.{put-ascends}

-- what holds of the cells and of a write holds of all once it was put in
All-put-at : (P : Write → Type 0) (cell : Write) (cells : List Write) (write : Write) (o : Ordering)
    → All P (cell ∷ cells) → P write → All P (put cells write)
    → All P (match_ordering o (write ∷ cell ∷ cells) (write ∷ cells) (cell ∷ put cells write))
All-put-at P cell cells write Less all h rest = All-cons P write (cell ∷ cells) h all
All-put-at P cell cells write Equal all h rest = All-cons P write cells h (All-tail P cell cells all)
All-put-at P cell cells write Greater all h rest = All-cons P cell (put cells write) (All-head P cell cells all) rest

-- so for every put
pub All-put : (P : Write → Type 0) (cells : List Write) (write : Write) → All P cells → P write
    → All P (put cells write)
All-put P [] write all h = All-cons P write [] h all
All-put P (cell ∷ cells) write all h =
    All-put-at P cell cells write (order write.id cell.id) all h (All-put P cells write (All-tail P cell cells all) h)

-- the same of a write that is applied
pub All-applied : (P : Write → Type 0) (cells : List Write) (write : Write) → All P cells → P write
    → All P (applied cells write)
All-applied P cells write all h =
    elim (is_newer cells write) as (λ b. All P (cond b (put cells write) cells)) [ true ↦ All-put P cells write all h | false ↦ all ]

-- a write that is applied keeps the cells in order
pub applied-ascends : (cells : List Write) (write : Write) → AscendById cells → AscendById (applied cells write)
applied-ascends cells write a =
    elim (is_newer cells write) as (λ b. AscendById (cond b (put cells write) cells)) [ true ↦ put-ascends cells write a | false ↦ a ]

-- a put makes no room
pub spare_after-≤ : (cells : List Write) (spare : ℕ) (write : Write) → spare_after cells spare write ≤ spare
spare_after-≤ cells spare write =
    elim (is_some (write_of cells write.id)) as (λ b. cond b spare (spare - 1) ≤ spare) [ true ↦ omega arith | false ↦ omega arith ]

-- a put takes at most one place
pub spare_after-≥ : (cells : List Write) (spare : ℕ) (write : Write) → spare - 1 ≤ spare_after cells spare write
spare_after-≥ cells spare write =
    elim (is_some (write_of cells write.id)) as (λ b. spare - 1 ≤ cond b spare (spare - 1)) [ true ↦ omega arith | false ↦ omega arith ]

-- what is below a clock is below a later one
All-later : (cells : List Write) (clock later : ℤ) → clock ≤ℤ later
    → All (λ (cell : Write). cell.version ≤ℤ clock) cells → All (λ (cell : Write). cell.version ≤ℤ later) cells
All-later cells clock later h all =
    All-weaker (λ (cell : Write). cell.version ≤ℤ clock) (λ (cell : Write). cell.version ≤ℤ later) (λ cell below. omega (arith, ints)) cells all

-- a core that leads is one
pub IsCore-led : (core : Core) (write : Write) → IsCore core → core.clock <ℤ write.version → IsCore (led core write)
IsCore-led core write is above =
    record {
      ascends = put-ascends core.cells write is.ascends;
      from_zero = omega (arith, ints, is.from_zero, above);
      clocked = All-put (λ (cell : Write). cell.version ≤ℤ write.version) core.cells write
          (All-later core.cells core.clock write.version (omega (arith, ints, above)) is.clocked) (omega (arith, ints));
      active = is.active;
      cell_room = omega (arith, spare_after-≤ core.cells core.cell_spare write, is.cell_room);
      buffer_room = is.buffer_room;
    }

-- a core that a write is applied to is one
pub IsCore-fed : (core : Core) (write : Write) → IsCore core → IsCore (fed core write)
IsCore-fed core write is =
    record {
      ascends = applied-ascends core.cells write is.ascends;
      from_zero = omega (arith, ints, clamps, is.from_zero);
      clocked = All-applied (λ (cell : Write). cell.version ≤ℤ int_max core.clock write.version) core.cells write
          (All-later core.cells core.clock (int_max core.clock write.version) (omega (arith, ints, clamps)) is.clocked) (omega (arith, ints, clamps));
      active = is.active;
      cell_room = omega (arith, spare_after-≤ core.cells core.cell_spare write, is.cell_room);
      buffer_room = is.buffer_room;
    }

-- a core that buffers a write is one
pub IsCore-buffered : (core : Core) (write : Write) → IsCore core → core.mode ≡ Buffering → IsCore (buffered core write)
IsCore-buffered core write is buffering =
    record {
      ascends = is.ascends;
      from_zero = is.from_zero;
      clocked = is.clocked;
      active = λ (active : core.mode ≡ Active). cc;
      cell_room = is.cell_room;
      buffer_room = omega (arith, is.buffer_room);
    }

-- a core that is sent a write in a mode is one
received_in-core : (mode : Mode) (core : Core) (write : Write) → core.mode ≡ mode → IsCore core
    → IsCore (received_in mode core write)
received_in-core Buffering core write same is = IsCore-buffered core write is same
received_in-core Active core write same is = IsCore-fed core write is
received_in-core Replaying core write same is = IsCore-fed core write is

-- a core that is sent a write is one
pub IsCore-received : (core : Core) (write : Write) → IsCore core → IsCore (received core write)
IsCore-received core write is = received_in-core core.mode core write refl is

-- with fewer writes in its buffer it is a core
pub IsCore-left : (core : Core) (left : List Write) → IsEmptyWhereActive core.mode left → IsCore core
    → IsCore (record core { buffer = left })
IsCore-left core left active is =
    record {
      ascends = is.ascends;
      from_zero = is.from_zero;
      clocked = is.clocked;
      active = active;
      cell_room = is.cell_room;
      buffer_room = is.buffer_room;
    }

-- applying writes leaves the mode
pub mode-fed_all : (core : Core) (writes : List Write) → (fed_all core writes).mode ≡ core.mode
mode-fed_all core [] = refl
mode-fed_all core (write ∷ writes) = mode-fed_all (fed core write) writes

-- applying writes leaves a core one
pub IsCore-fed_all : (core : Core) (writes : List Write) → IsCore core → IsCore (fed_all core writes)
IsCore-fed_all core [] is = is
IsCore-fed_all core (write ∷ writes) is = IsCore-fed_all (fed core write) writes (IsCore-fed core write is)

-- once it was finished it is one
pub IsCore-finished : (core : Core) → IsCore core → IsCore (finished core)
IsCore-finished core is =
    record {
      ascends = is.ascends;
      from_zero = is.from_zero;
      clocked = is.clocked;
      active = left core.buffer;
      cell_room = is.cell_room;
      buffer_room = is.buffer_room;
    }
  where
    left : (buffer : List Write) → IsEmptyWhereActive (mode_left buffer) buffer
    left [] = λ active. refl
    left (write ∷ writes) = λ active. cc

-- and once it was replayed
pub IsCore-replayed : (core : Core) → IsCore core → IsCore (replayed core)
IsCore-replayed core is =
    let applied = fed_all core (take replay_limit core.buffer) in
    IsCore-finished (replayed_first replay_limit core)
    (IsCore-left applied (drop replay_limit core.buffer) (λ active. none (sym (mode-fed_all core (take replay_limit core.buffer)) ∙ active)) (IsCore-fed_all core (take replay_limit core.buffer) is))
  where
    dropped : (n : ℕ) (writes : List Write) → writes ≡ [] → drop n writes ≡ []
    dropped zero [] e = refl
    dropped (suc n) [] e = refl
    dropped n (write ∷ writes) e = cc

    none : core.mode ≡ Active → drop replay_limit core.buffer ≡ []
    none active = dropped replay_limit core.buffer (is.active active)

-- a core whose mode isn't Buffering applies what it is sent
pub received-applied : (core : Core) (write : Write) → (core.mode ≡ Active) ⊎ (core.mode ≡ Replaying)
    → received core write ≡ fed core write
received-applied core write (inl active) = rw active refl
received-applied core write (inr replaying) = rw replaying refl

-- one write more of the buffer is applied
fed_first-drop : (core : Core) (n : ℕ) (writes : List Write) → n < length writes
    → fed_first (record (fed_all core (take n writes)) { buffer = drop n writes }) (drop n writes) ≡ record (fed_all core (take (suc n) writes)) { buffer = drop (suc n) writes }
fed_first-drop core n [] h = absurd (omega arith)
fed_first-drop core zero (write ∷ writes) h = refl
fed_first-drop core (suc n) (write ∷ writes) h = fed_first-drop (fed core write) n writes (omega arith)

-- one replay more is one write more of the buffer
pub replayed_first-more : (core : Core) (n : ℕ) → n < length core.buffer
    → replayed_next (replayed_first n core) ≡ replayed_first (n + 1) core
replayed_first-more core n h = rw add-one (fed_first-drop core n core.buffer h)

-- with all of the buffer, or with so many, the same are applied
take-min : (n : ℕ) (writes : List Write) → take (min (length writes) n) writes ≡ take n writes
take-min n writes = grind (arith, common_steps)

-- and the same are left
drop-min : (n : ℕ) (writes : List Write) → drop (min (length writes) n) writes ≡ drop n writes
drop-min n writes = grind (arith, common_steps)

-- so a replay of so many is one of all where there are fewer
pub replayed_first-min : (core : Core) (n : ℕ)
    → replayed_first (min (length core.buffer) n) core ≡ replayed_first n core
replayed_first-min core n = rw (take-min n core.buffer, drop-min n core.buffer) refl

-- a replay leaves the mode until it is finished
pub mode-replayed_first : (core : Core) (n : ℕ) → (replayed_first n core).mode ≡ core.mode
mode-replayed_first core n = mode-fed_all core (take n core.buffer)

-- so much is left of the buffer
pub length-replayed_first : (core : Core) (n : ℕ) → length (replayed_first n core).buffer ≡ length core.buffer - n
length-replayed_first core n = length-drop n core.buffer

-- each write that is applied takes at most one place
pub spare-fed_all : (core : Core) (writes : List Write)
    → core.cell_spare ≤ (fed_all core writes).cell_spare + length writes
spare-fed_all core [] = omega arith
spare-fed_all core (write ∷ writes) = omega (arith, spare-fed_all (fed core write) writes, spare_after-≥ core.cells core.cell_spare write)

-- so does each write of a replay
pub spare-replayed_first : (core : Core) (n : ℕ) → core.cell_spare ≤ (replayed_first n core).cell_spare + n
spare-replayed_first core n = omega (arith, spare-fed_all core (take n core.buffer), length-take n core.buffer)

-- what is left decides the mode
pub mode_left-Active : (buffer : List Write) → mode_left buffer ≡ Active → buffer ≡ []
mode_left-Active [] h = refl
mode_left-Active (write ∷ writes) h = cc
