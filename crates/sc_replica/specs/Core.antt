-- A core, and what becomes of it by each call.
use Rattle.std.specs.Prelude.{◌<◌, ◌≤ℤ◌, ◌-◌, ◌^◌, ℕ, ℤ, pos, Bool, All, List, [], ◌∷◌, ◌++◌, take, drop}
use Rattle.std.specs.Int.{int_max}
use Rattle.sc_record.specs.declared.slice.CoreId.{CoreId}
use Rattle.sc_record.specs.Writes.{Write, AscendById}
use Rattle.sc_ulog.specs.declared.mode.Mode.{Mode}
use Rattle.sc_ulog.specs.declared.mode.Mode.TheVariants.{Active, Buffering, Replaying}
use Rattle.sc_ulog.specs.LogState.{IsEmptyWhereActive}
use Rattle.sc_replica.specs.Cells.{put, applied, spare_after}

-- a core as contracts see it: its name, which is the seat that it sits in; its own number among the slice's cores; its cells, its log
-- (the oldest write first), its clock, whether it is marked as down, and how many more ids the cells and how many more writes the
-- buffer have room for
pub record Core : Type 0 where
  pub core : CoreId
  pub number : ℕ
  pub cells : List Write
  pub mode : Mode
  pub buffer : List Write
  pub clock : ℤ
  pub down : Bool
  pub cell_spare : ℕ
  pub buffer_spare : ℕ

-- what is true of every core
pub record IsCore (core : Core) : Type 0 where
  pub ascends : AscendById core.cells
  pub from_zero : pos 0 ≤ℤ core.clock
  -- no cell's version is above the clock
  pub clocked : All (λ (cell : Write). cell.version ≤ℤ core.clock) core.cells
  pub active : IsEmptyWhereActive core.mode core.buffer
  pub cell_room : core.cell_spare < 2 ^ 64
  pub buffer_room : core.buffer_spare < 2 ^ 64

-- the core once it led the write: its cell is the write, and its clock the write's version
abbrev pub led : Core → Write → Core
led core write = record core {
  cells = put core.cells write;
  clock = write.version;
  cell_spare = spare_after core.cells core.cell_spare write;
}

-- the core once the write was applied: a write that isn't newer is dropped, and the clock is at least the write's version
abbrev pub fed : Core → Write → Core
fed core write = record core {
  cells = applied core.cells write;
  clock = int_max core.clock write.version;
  cell_spare = spare_after core.cells core.cell_spare write;
}

-- the core once the write was put at the end of its buffer
abbrev pub buffered : Core → Write → Core
buffered core write = record core {
  buffer = core.buffer ++ write ∷ [];
  buffer_spare = core.buffer_spare - 1;
}

-- the core in this mode once it was sent the write
abbrev pub received_in : Mode → Core → Write → Core
received_in Buffering core write = buffered core write
received_in Active core write = fed core write
received_in Replaying core write = fed core write

-- the core once it was sent the write
abbrev pub received : Core → Write → Core
received core write = received_in core.mode core write

-- the core once the writes were applied, one after another
abbrev pub fed_all : Core → List Write → Core
fed_all core [] = core
fed_all core (write ∷ writes) = fed_all (fed core write) writes

-- the core once the first of the writes in its buffer was applied
abbrev pub fed_first : Core → List Write → Core
fed_first core [] = core
fed_first core (write ∷ writes) = record (fed core write) { buffer = writes }

-- the same, of the buffer that the core has
abbrev pub replayed_next : Core → Core
replayed_next core = fed_first core core.buffer

-- the core once the first n writes of its buffer were applied
abbrev pub replayed_first : ℕ → Core → Core
replayed_first n core = record (fed_all core (take n core.buffer)) { buffer = drop n core.buffer }

-- the mode of a replaying core by what its buffer holds
abbrev pub mode_left : List Write → Mode
mode_left [] = Active
mode_left (write ∷ writes) = Replaying

-- the replaying core, which is active where its buffer is empty
abbrev pub finished : Core → Core
finished core = record core { mode = mode_left core.buffer }

-- how many writes a replay applies at most
unfoldable pub replay_limit : ℕ
replay_limit = 64

-- the core once the first 64 writes of its buffer were applied, or all where they are fewer; with no write left it is
-- active
abbrev pub replayed : Core → Core
replayed core = finished (replayed_first replay_limit core)
