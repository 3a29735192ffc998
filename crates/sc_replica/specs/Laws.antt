-- What cores come to by any deliveries.
use Rattle.std.specs.Prelude.{◌≡◌, ◌≤◌, ◌<◌, ◌<ℤ◌, ◌*◌, ◌↔◌, ℕ, if◌then◌else◌, false, Some, option_to_list}
use Rattle.std.specs.List.{flat_map}
use Rattle.std.specs.Prelude.{Contains, filter, length, map, List, [], ◌++◌}
use Rattle.sc_record.specs.Writes.{Write, is_of, write_of, AscendById}
use Rattle.sc_ulog.specs.declared.mode.Mode.TheVariants.{Active, Buffering}
use Rattle.sc_replica.specs.Cells.{put, is_newer}
use Rattle.sc_replica.specs.Core.{Core, IsCore, led, fed, received, replayed, replay_limit}
use Rattle.sc_replica.specs.Deliveries.{Delivery, carried, after_deliveries, received_all, replaying, replayed_times}
use Rattle.sc_replica.specs.Deliveries.{Step, came, stepped_all, IsGreatest}

-- a put changes the cell of the write's id alone
abbrev pub PutsOneCell : Type 0
PutsOneCell = (cells : List Write) (write : Write) (id : List ℕ)
    → write_of (put cells write) id ≡ (if is_of id write then Some write else write_of cells id)

-- a put keeps the cells in order
abbrev pub PutsInOrder : Type 0
PutsInOrder = (cells : List Write) (write : Write) → AscendById cells → AscendById (put cells write)

-- what a put makes of cells
pub record PutsOneCellInOrder : Type 0 where
  pub one_cell : PutsOneCell
  pub order : PutsInOrder

-- whatever comes to an active core, in any order and with repeats, the cell of an id is the greatest of the writes of it,
-- of those that came and the one that was there
abbrev pub KeepsTheGreatest : Type 0
KeepsTheGreatest = (core : Core) (deliveries : List Delivery) (id : List ℕ) → core.mode ≡ Active
    → IsGreatest (option_to_list (write_of core.cells id) ++ filter (is_of id) (map carried deliveries))
    (write_of (after_deliveries core deliveries).cells id)

-- no two different writes of one id have one version
abbrev pub AreOrdered : List Write → Type 0
AreOrdered writes = (one other : Write) → Contains writes one → Contains writes other → one.id ≡ other.id
    → one.version ≡ other.version → one ≡ other

-- two active cores that had no cells and were given the same writes, in whatever order and how often, have the same cells
abbrev pub Converge : Type 0
Converge = (one other : Core) (ones others : List Delivery)
    → one.mode ≡ Active → one.cells ≡ [] → other.mode ≡ Active → other.cells ≡ []
    → ((write : Write) → Contains (map carried ones) write ↔ Contains (map carried others) write)
    → AreOrdered (map carried ones)
    → (after_deliveries one ones).cells ≡ (after_deliveries other others).cells

-- a core that buffers what it is sent, and then replays it to the end, has the cells and the clock of one that got it at
-- once
abbrev pub ReplaysWhatItBuffered : Type 0
ReplaysWhatItBuffered = (buffering active : Core) (writes : List Write) (replays : ℕ)
    → buffering.mode ≡ Buffering → buffering.buffer ≡ [] → active ≡ record buffering { mode = Active }
    → 0 < replays → length writes ≤ replays * replay_limit
    → let after = replayed_times replays (replaying (received_all buffering writes)) in
    let at_once = received_all active writes in
    (after.mode ≡ Active) × (after.cells ≡ at_once.cells) × (after.clock ≡ at_once.clock)

-- whatever comes to a core while it buffers, while it replays and after, once its buffer is empty the cell of an id is the
-- greatest of the writes of it, of those that came, those that were buffered and the one that was there
abbrev pub LosesNothing : Type 0
LosesNothing = (core : Core) (steps : List Step) (id : List ℕ) → (stepped_all core steps).buffer ≡ []
    → IsGreatest (option_to_list (write_of core.cells id) ++ filter (is_of id) (core.buffer ++ flat_map came steps))
    (write_of (stepped_all core steps).cells id)

-- a leader's own write, which is above its clock, is applied like any other
abbrev pub LeadsAsItIsFed : Type 0
LeadsAsItIsFed = (core : Core) (write : Write) → IsCore core → core.clock <ℤ write.version
    → led core write ≡ fed core write

-- a write that isn't newer than its id's cell changes nothing
abbrev pub DropsTheOlder : Type 0
DropsTheOlder = (core : Core) (write : Write) → IsCore core → is_newer core.cells write ≡ false
    → fed core write ≡ core

-- a core stays one, whatever comes to it
abbrev pub KeepsACore : Type 0
KeepsACore = (core : Core) (write : Write) → IsCore core
    → (core.clock <ℤ write.version → IsCore (led core write)) × IsCore (fed core write) × IsCore (received core write)
    × IsCore (replayed core)
